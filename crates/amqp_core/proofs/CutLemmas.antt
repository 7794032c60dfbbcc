-- An end that is fed pieces does what it does octet by octet.
use Rattle.std.proofs.Common.{◌≡◌, Bool, true, false, ℕ, List, [], ◌∷◌, ◌++◌, drop, Option, Some, None, refl, sym, ap, ◌∙◌}
use Rattle.std.proofs.lemmas.Bool.{true≢false, false≢true}
use Rattle.std.specs.List.{concat}
use Rattle.amqp_model.specs.End.Channels as channels
use Rattle.amqp_model.specs.End.EndVerdict.{facts_at, end_verdict}
use Rattle.amqp_model.specs.Stream.Endpoint.{Begun, Comparison, Differs, Endpoint, Feeding, Finished, Found, Judgement, Outcome, Prefix, Same, Unfinished, Whole, Wrong, after_feed, after_judged, after_octet, after_octets, after_opening, awaits_opening, compared, fed_after, judged, outcome_of, refusal_in, unless_over}
use Rattle.amqp_model.specs.End.Events as events
use Rattle.amqp_model.specs.End.Events.{Event, Fault, FrameVerdict}
use Rattle.amqp_model.specs.End.FrameVerdict.{Facts}
use Rattle.amqp_model.specs.History.Negotiation.{Config, frame_limit}
use Rattle.amqp_model.specs.Wire.Notes.{Role}
use Rattle.amqp_model.specs.Stream.Octets.{opening_read}
use Rattle.amqp_core.specs.End.Cuts as cuts
use Rattle.amqp_core.specs.End.Cuts.{CutsChangeNothing, IsFedPieces}

-- What one octet does: by it nothing is whole, and the end goes on as it was; or one octet was taken; or a fault is found.

abbrev GoesOnFrom : channels.Phase → Feeding → Outcome → Type 0
GoesOnFrom phase feeding Unfinished = feeding.endpoint.end.phase ≡ phase
GoesOnFrom phase feeding (Finished event) = feeding.taken ≡ 1
GoesOnFrom phase feeding (Found fault) = Unit {0}

-- the same of an end that takes octets
abbrev TakesOne : Feeding → Outcome → Type 0
TakesOne feeding Unfinished = refusal_in feeding.endpoint.end.phase ≡ None
TakesOne feeding (Finished event) = feeding.taken ≡ 1
TakesOne feeding (Found fault) = Unit {0}

by_verdict : {role : Role} (facts : Facts role) (verdict : FrameVerdict) (phase : channels.Phase) (feeding : Feeding) → feeding.taken ≡ 1 → GoesOnFrom phase feeding (outcome_of facts verdict)
by_verdict facts (events.Proceeds event owed) phase feeding one = one
by_verdict facts events.RefusesContent phase feeding one = one
by_verdict facts (events.Faults fault) phase feeding one = tt

by_judgement : (role : Role) (config : Config role) (endpoint : Endpoint) (octets : List ℕ) (judgement : Judgement) → GoesOnFrom endpoint.end.phase (after_judged role config endpoint octets judgement) (after_judged role config endpoint octets judgement).outcome
by_judgement role config endpoint octets Begun = refl
by_judgement role config endpoint octets (Whole frame) = by_verdict (facts_at config endpoint.end frame.channel) (end_verdict config endpoint.end frame) endpoint.end.phase (after_judged role config endpoint octets (Whole frame)) refl
by_judgement role config endpoint octets (Wrong kind) = tt

by_comparison : (role : Role) (config : Config role) (endpoint : Endpoint) (octets : List ℕ) (comparison : Comparison) → GoesOnFrom endpoint.end.phase (after_opening role config endpoint octets comparison) (after_opening role config endpoint octets comparison).outcome
by_comparison role config endpoint octets Prefix = refl
by_comparison role config endpoint octets Same = refl
by_comparison role config endpoint octets Differs = tt

by_opening : (role : Role) (config : Config role) (endpoint : Endpoint) (octets : List ℕ) (awaits : Bool) → GoesOnFrom endpoint.end.phase (after_octets role config endpoint octets awaits) (after_octets role config endpoint octets awaits).outcome
by_opening role config endpoint octets true = by_comparison role config endpoint octets (compared octets (opening_read role))
by_opening role config endpoint octets false = by_judgement role config endpoint octets (judged (frame_limit endpoint.end.agreed) octets)

takes_one : (phase next : channels.Phase) (feeding : Feeding) (outcome : Outcome) → phase ≡ next → refusal_in next ≡ None → GoesOnFrom phase feeding outcome → TakesOne feeding outcome
takes_one phase next feeding Unfinished e none same = ap refusal_in (same ∙ e) ∙ none
takes_one phase next feeding (Finished event) e none one = one
takes_one phase next feeding (Found fault) e none found = tt

by_phase : (endpoint : Endpoint) (phase : channels.Phase) (feeding : Feeding) → endpoint.end.phase ≡ phase → GoesOnFrom endpoint.end.phase feeding feeding.outcome
    → TakesOne (unless_over endpoint (refusal_in phase) feeding) (unless_over endpoint (refusal_in phase) feeding).outcome
by_phase endpoint (channels.Handshake step) feeding e does = takes_one endpoint.end.phase (channels.Handshake step) feeding feeding.outcome e refl does
by_phase endpoint channels.Running feeding e does = takes_one endpoint.end.phase channels.Running feeding feeding.outcome e refl does
by_phase endpoint channels.Phase.Closing feeding e does = takes_one endpoint.end.phase channels.Phase.Closing feeding feeding.outcome e refl does
by_phase endpoint channels.Closed feeding e does = tt
by_phase endpoint channels.Failed feeding e does = tt

octet_does : (role : Role) (config : Config role) (endpoint : Endpoint) (octet : ℕ) → TakesOne (after_octet role config endpoint octet) (after_octet role config endpoint octet).outcome
octet_does role config endpoint octet =
    by_phase endpoint endpoint.end.phase (after_octets role config endpoint (endpoint.unfinished ++ octet ∷ []) (awaits_opening role endpoint.end.phase)) refl
    (by_opening role config endpoint (endpoint.unfinished ++ octet ∷ []) (awaits_opening role endpoint.end.phase))

-- A piece without octets.

abbrev Emptied : Endpoint → Option Fault → Feeding
Emptied endpoint over = unless_over endpoint over (record { endpoint = endpoint; taken = 0; outcome = Unfinished })

emptied : (endpoint : Endpoint) (over : Option Fault) → (Emptied endpoint over).endpoint ≡ endpoint
emptied endpoint None = refl
emptied endpoint (Some fault) = refl

-- Which of the three it is.

abbrev is_finished : Outcome → Bool
is_finished (Finished event) = true
is_finished outcome = false

abbrev is_found : Outcome → Bool
is_found (Found fault) = true
is_found outcome = false

abbrev is_unfinished : Outcome → Bool
is_unfinished Unfinished = true
is_unfinished outcome = false

empty_unfinished : (endpoint : Endpoint) (over : Option Fault) (event : Option Event) → (Emptied endpoint over).outcome ≡ Finished event → ⊥
empty_unfinished endpoint None event e = false≢true (ap is_finished e)
empty_unfinished endpoint (Some fault) event e = false≢true (ap is_finished e)

abbrev is_over : Option Fault → Bool
is_over (Some fault) = true
is_over None = false

empty_found : (endpoint : Endpoint) (over : Option Fault) (fault : Fault) → over ≡ None → (Emptied endpoint over).outcome ≡ Found fault → ⊥
empty_found endpoint None fault none e = false≢true (ap is_found e)
empty_found endpoint (Some other) fault none e = true≢false (ap is_over none)

-- Octet by octet: what is reported, and what is left.

pub record Run : Type 0 where
  pub reports : List Outcome
  pub left : Endpoint

abbrev run_on : (first : Feeding) → Outcome → (rest : Run) → Run
run_on first Unfinished rest = rest
run_on first (Finished event) rest = record { reports = Finished event ∷ rest.reports; left = rest.left }
run_on first (Found fault) rest = record { reports = Found fault ∷ []; left = first.endpoint }

abbrev run : (role : Role) → Config role → Endpoint → List ℕ → Run
run role config endpoint [] = record { reports = []; left = endpoint }
run role config endpoint (octet ∷ later) =
    run_on (after_octet role config endpoint octet) (after_octet role config endpoint octet).outcome (run role config (after_octet role config endpoint octet).endpoint later)

-- Nothing comes of a piece.

wait_step : (role : Role) (config : Config role) (first later : Feeding) (outcome : Outcome) (xs q : List ℕ) → first.outcome ≡ outcome → (fed_after first outcome later).outcome ≡ Unfinished
    → (later.outcome ≡ Unfinished → run role config first.endpoint xs ≡ run role config later.endpoint q)
    → run_on first outcome (run role config first.endpoint xs) ≡ run role config (fed_after first outcome later).endpoint q
wait_step role config first later Unfinished xs q e none on = on none
wait_step role config first later (Finished event) xs q e none on = absurd (false≢true (ap is_unfinished (sym e ∙ none)))
wait_step role config first later (Found fault) xs q e none on = absurd (false≢true (ap is_unfinished (sym e ∙ none)))

run_waits : (role : Role) (config : Config role) (endpoint : Endpoint) (p q : List ℕ) → (after_feed role config endpoint p).outcome ≡ Unfinished
    → run role config endpoint (p ++ q) ≡ run role config (after_feed role config endpoint p).endpoint q
run_waits role config endpoint [] q none = ap (λ (e : Endpoint). run role config e q) (sym (emptied endpoint (refusal_in endpoint.end.phase)))
run_waits role config endpoint (octet ∷ p) q none =
    let first = after_octet role config endpoint octet in
    wait_step role config first (after_feed role config first.endpoint p) first.outcome (p ++ q) q refl none (run_waits role config first.endpoint p q)

-- Something is whole.

finish_step : (role : Role) (config : Config role) (first later : Feeding) (outcome : Outcome) (octet : ℕ) (p q : List ℕ) (event : Option Event) → first.outcome ≡ outcome → TakesOne first outcome
    → (fed_after first outcome later).outcome ≡ Finished event
    → (later.outcome ≡ Finished event → run role config first.endpoint (p ++ q) ≡ run_on later (Finished event) (run role config later.endpoint (drop later.taken p ++ q)))
    → run_on first outcome (run role config first.endpoint (p ++ q))
    ≡ run_on (fed_after first outcome later) (Finished event) (run role config (fed_after first outcome later).endpoint (drop (fed_after first outcome later).taken (octet ∷ p) ++ q))
finish_step role config first later Unfinished octet p q event e one some on = on some
finish_step role config first later (Finished other) octet p q event e one some on =
    let same : Finished other ≡ Finished event = sym e ∙ some in
    ap (λ (o : Outcome). run_on first o (run role config first.endpoint (p ++ q))) same
    ∙ ap (λ n. run_on first (Finished event) (run role config first.endpoint (drop n (octet ∷ p) ++ q))) (sym one)
finish_step role config first later (Found fault) octet p q event e one some on = absurd (false≢true (ap is_finished (sym e ∙ some)))

run_finishes : (role : Role) (config : Config role) (endpoint : Endpoint) (p q : List ℕ) (event : Option Event) → (after_feed role config endpoint p).outcome ≡ Finished event
    → run role config endpoint (p ++ q)
    ≡ run_on (after_feed role config endpoint p) (Finished event) (run role config (after_feed role config endpoint p).endpoint (drop (after_feed role config endpoint p).taken p ++ q))
run_finishes role config endpoint [] q event some = absurd (empty_unfinished endpoint (refusal_in endpoint.end.phase) event some)
run_finishes role config endpoint (octet ∷ p) q event some =
    let first = after_octet role config endpoint octet in
    finish_step role config first (after_feed role config first.endpoint p) first.outcome octet p q event refl (octet_does role config endpoint octet) some (run_finishes role config first.endpoint p q event)

-- A fault is found.

find_step : (role : Role) (config : Config role) (first later : Feeding) (outcome : Outcome) (xs : List ℕ) (fault : Fault) → first.outcome ≡ outcome → TakesOne first outcome
    → (fed_after first outcome later).outcome ≡ Found fault
    → (refusal_in first.endpoint.end.phase ≡ None → later.outcome ≡ Found fault → run role config first.endpoint xs ≡ run_on later (Found fault) (run role config first.endpoint xs))
    → run_on first outcome (run role config first.endpoint xs) ≡ run_on (fed_after first outcome later) (Found fault) (run role config first.endpoint xs)
find_step role config first later Unfinished xs fault e one found on = on one found
find_step role config first later (Finished event) xs fault e one found on = absurd (false≢true (ap is_found (sym e ∙ found)))
find_step role config first later (Found other) xs fault e one found on =
    ap (λ (o : Outcome). run_on first o (run role config first.endpoint xs)) (sym e ∙ found)

run_goes : (role : Role) (config : Config role) (endpoint : Endpoint) (p q : List ℕ) (fault : Fault) → refusal_in endpoint.end.phase ≡ None → (after_feed role config endpoint p).outcome ≡ Found fault
    → run role config endpoint (p ++ q) ≡ run_on (after_feed role config endpoint p) (Found fault) (run role config endpoint (p ++ q))
run_goes role config endpoint [] q fault none found = absurd (empty_found endpoint (refusal_in endpoint.end.phase) fault none found)
run_goes role config endpoint (octet ∷ p) q fault none found =
    let first = after_octet role config endpoint octet in
    find_step role config first (after_feed role config first.endpoint p) first.outcome (p ++ q) fault refl (octet_does role config endpoint octet) found (run_goes role config first.endpoint p q fault)

run_finds : (role : Role) (config : Config role) (endpoint : Endpoint) (octet : ℕ) (p q : List ℕ) (fault : Fault) → (after_feed role config endpoint (octet ∷ p)).outcome ≡ Found fault
    → run role config endpoint (octet ∷ p ++ q) ≡ run_on (after_feed role config endpoint (octet ∷ p)) (Found fault) (run role config endpoint (octet ∷ p ++ q))
run_finds role config endpoint octet p q fault found =
    let first = after_octet role config endpoint octet in
    find_step role config first (after_feed role config first.endpoint p) first.outcome (p ++ q) fault refl (octet_does role config endpoint octet) found (run_goes role config first.endpoint p q fault)

-- So pieces come to what their octets come to.
run_pieces : (role : Role) (config : Config role) (endpoint : Endpoint) (pieces : List (List ℕ)) (reports : List Outcome) (new : Endpoint) → IsFedPieces role config endpoint pieces reports new
    → ◌≡◌ {A = Run} (record { reports = reports; left = new }) (run role config endpoint (concat pieces))
run_pieces role config endpoint _ _ _ cuts.ends = refl
run_pieces role config endpoint _ _ _ (cuts.passes {new = new} {pieces = pieces} {reports = reports} rest) = run_pieces role config endpoint pieces reports new rest
run_pieces role config endpoint _ _ _ (cuts.waits {new = new} {pieces = pieces} {reports = reports} octet later none rest) =
    run_pieces role config (after_feed role config endpoint (octet ∷ later)).endpoint pieces reports new rest ∙ sym (run_waits role config endpoint (octet ∷ later) (concat pieces) none)
run_pieces role config endpoint _ _ _ (cuts.finishes {new = new} {pieces = pieces} {reports = reports} octet later event some rest) =
    let fed = after_feed role config endpoint (octet ∷ later) in
    ap (λ (r : Run). run_on fed (Finished event) r) (run_pieces role config fed.endpoint (drop fed.taken (octet ∷ later) ∷ pieces) reports new rest)
    ∙ sym (run_finishes role config endpoint (octet ∷ later) (concat pieces) event some)
run_pieces role config endpoint _ _ _ (cuts.finds {pieces = pieces} octet later fault found) = sym (run_finds role config endpoint octet later (concat pieces) fault found)

pub cuts_change_nothing : CutsChangeNothing
cuts_change_nothing role config endpoint pieces others reports told new next same one other =
    let runs = run_pieces role config endpoint pieces reports new one ∙ (ap (run role config endpoint) same ∙ sym (run_pieces role config endpoint others told next other)) in
    record { reports_are = ap (λ (r : Run). r.reports) runs; left = ap (λ (r : Run). r.left) runs }
