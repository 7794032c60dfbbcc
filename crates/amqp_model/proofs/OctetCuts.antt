-- However a piece is cut, the same comes of it; and how many of its octets are taken.
use Rattle.std.proofs.Common.{◌≡◌, ◌≢◌, Bool, true, false, ℕ, suc, ◌+◌, ◌<◌, ◌≤◌, List, []}
use Rattle.std.proofs.Common.{◌∷◌, ◌++◌, length, Option, Some, None, refl, ap, ◌∙◌, arith}
use Rattle.amqp_model.specs.Wire.Notes.{Role}
use Rattle.amqp_model.specs.End.Channels.{Phase, Handshake, Running, Closing, Closed, Failed}
use Rattle.amqp_model.specs.History.Negotiation.{Config, frame_limit}
use Rattle.amqp_model.specs.End.Events.{Fault, AlreadyClosed, AlreadyFailed}
use Rattle.amqp_model.specs.Stream.Octets.{opening_read}
use Rattle.amqp_model.specs.Stream.Endpoint.{Judgement, Begun, Whole, Wrong, judged, Comparison, Prefix, Same, Differs}
use Rattle.amqp_model.specs.Stream.Endpoint.{compared, Endpoint, Outcome, Unfinished, Finished, Found, Feeding}
use Rattle.amqp_model.specs.Stream.Endpoint.{refusal_in, unless_over, awaits_opening, after_opening, after_judged}
use Rattle.amqp_model.specs.Stream.Endpoint.{after_octets, after_octet, fed_after, after_feed}
use Rattle.amqp_model.specs.Laws.OctetLaws.{then_fed, CutGoesOn, CutStops, FeedProgresses, FeedTakesWithin}
use Rattle.amqp_model.specs.Laws.OctetLaws.{FeedTakesAll, FeedStaysClosed, FeedStaysFailed}

-- an octet more
abbrev one_more : Feeding → Feeding
one_more feeding = record { endpoint = feeding.endpoint; taken = suc feeding.taken; outcome = feeding.outcome }

-- an end that takes no octet
abbrev refused : Endpoint → Fault → Feeding
refused endpoint fault = record { endpoint = endpoint; taken = 0; outcome = Found fault }

pub not-over : (phase : Phase) → phase ≢ Closed → phase ≢ Failed → refusal_in phase ≡ None
not-over Closed c f = absurd (c refl)
not-over Failed c f = absurd (f refl)
not-over (Handshake step) c f = refl
not-over Running c f = refl
not-over Closing c f = refl

-- An end that takes no octet stays as it is.
stays-over : (role : Role) (config : Config role) (endpoint : Endpoint) (fault : Fault) (piece : List ℕ)
    → refusal_in endpoint.end.phase ≡ Some fault → after_feed role config endpoint piece
    ≡ refused endpoint fault
stays-over role config endpoint fault [] e =
    ap (λ refusal. unless_over endpoint refusal (record { endpoint = endpoint; taken = 0; outcome = Unfinished })) e
stays-over role config endpoint fault (octet ∷ later) e =
    ap (λ first. fed_after first first.outcome (after_feed role config first.endpoint later))
    (ap (λ refusal.
    unless_over endpoint refusal (after_octets role config endpoint (endpoint.unfinished ++ octet ∷ [])
    (awaits_opening role endpoint.end.phase))) e)

pub stays-closed : (role : Role) (config : Config role) (endpoint : Endpoint) (piece : List ℕ)
    → FeedStaysClosed role config endpoint piece
stays-closed role config endpoint piece e = stays-over role config endpoint AlreadyClosed piece (ap refusal_in e)

pub stays-failed : (role : Role) (config : Config role) (endpoint : Endpoint) (piece : List ℕ)
    → FeedStaysFailed role config endpoint piece
stays-failed role config endpoint piece e = stays-over role config endpoint AlreadyFailed piece (ap refusal_in e)

-- Two pieces.

same-feeding : (feeding : Feeding) (n m : ℕ) → n ≡ m
    → ◌≡◌ {A = Feeding} (record { endpoint = feeding.endpoint; taken = n; outcome = feeding.outcome })
    (record { endpoint = feeding.endpoint; taken = m; outcome = feeding.outcome })
same-feeding feeding n m e =
    ap (λ taken. record { endpoint = feeding.endpoint; taken = taken; outcome = feeding.outcome }) e

goes-on-after : (role : Role) (config : Config role) (first : Feeding) (outcome : Outcome) → first.outcome ≡ outcome
    → (p q : List ℕ) → CutGoesOn role config first.endpoint p q
    → (fed_after first outcome (after_feed role config first.endpoint p)).outcome ≡ Unfinished
    → fed_after first outcome (after_feed role config first.endpoint (p ++ q))
    ≡ then_fed (fed_after first outcome (after_feed role config first.endpoint p))
    (after_feed role config (fed_after first outcome (after_feed role config first.endpoint p)).endpoint q)
goes-on-after role config first Unfinished o p q more e =
    let prefix = after_feed role config first.endpoint p in
    let back = after_feed role config prefix.endpoint q in
    ap one_more (more e) ∙ same-feeding back (suc (prefix.taken + back.taken))
    (suc prefix.taken + back.taken) (omega arith)
goes-on-after role config first (Finished event) o p q more e = absurd cc
goes-on-after role config first (Found fault) o p q more e = absurd cc

pub cut-goes-on : (role : Role) (config : Config role) (endpoint : Endpoint) (p q : List ℕ)
    → CutGoesOn role config endpoint p q
cut-goes-on role config endpoint [] q e = cases (refusal_in endpoint.end.phase) e
  where
    cases : (refusal : Option Fault)
        → (unless_over endpoint refusal (record { endpoint = endpoint; taken = 0; outcome = Unfinished })).outcome
        ≡ Unfinished
        → after_feed role config endpoint q
        ≡ then_fed (unless_over endpoint refusal (record { endpoint = endpoint; taken = 0; outcome = Unfinished }))
        (after_feed role config
        (unless_over endpoint refusal (record { endpoint = endpoint; taken = 0; outcome = Unfinished })).endpoint q)
    cases None e =
        same-feeding (after_feed role config endpoint q) (after_feed role config endpoint q).taken
        (0 + (after_feed role config endpoint q).taken) (omega arith)
    cases (Some fault) e = absurd cc
cut-goes-on role config endpoint (octet ∷ p) q e =
    goes-on-after role config (after_octet role config endpoint octet) (after_octet role config endpoint octet).outcome
    refl p q (cut-goes-on role config (after_octet role config endpoint octet).endpoint p q) e

stops-after : (role : Role) (config : Config role) (first : Feeding) (outcome : Outcome) (p q : List ℕ)
    → CutStops role config first.endpoint p q
    → (fed_after first outcome (after_feed role config first.endpoint p)).outcome ≢ Unfinished
    → fed_after first outcome (after_feed role config first.endpoint (p ++ q))
    ≡ fed_after first outcome (after_feed role config first.endpoint p)
stops-after role config first Unfinished p q more e = ap one_more (more e)
stops-after role config first (Finished event) p q more e = refl
stops-after role config first (Found fault) p q more e = refl

pub cut-stops : (role : Role) (config : Config role) (endpoint : Endpoint) (p q : List ℕ)
    → CutStops role config endpoint p q
cut-stops role config endpoint [] q e = cases (refusal_in endpoint.end.phase) refl e
  where
    cases : (refusal : Option Fault) → refusal_in endpoint.end.phase ≡ refusal
        → (unless_over endpoint refusal (record { endpoint = endpoint; taken = 0; outcome = Unfinished })).outcome
        ≢ Unfinished
        → after_feed role config endpoint q
        ≡ unless_over endpoint refusal (record { endpoint = endpoint; taken = 0; outcome = Unfinished })
    cases None r e = absurd (e refl)
    cases (Some fault) r e = stays-over role config endpoint fault q r
cut-stops role config endpoint (octet ∷ p) q e =
    stops-after role config (after_octet role config endpoint octet) (after_octet role config endpoint octet).outcome p
    q (cut-stops role config (after_octet role config endpoint octet).endpoint p q) e

-- How many octets are taken.

octets-taken : (role : Role) (config : Config role) (endpoint : Endpoint) (octets : List ℕ) (awaits : Bool)
    → (after_octets role config endpoint octets awaits).taken ≡ 1
octets-taken role config endpoint octets true = cases (compared octets (opening_read role))
  where
    cases : (comparison : Comparison) → (after_opening role config endpoint octets comparison).taken ≡ 1
    cases Prefix = refl
    cases Same = refl
    cases Differs = refl
octets-taken role config endpoint octets false = cases (judged (frame_limit endpoint.end.agreed) octets)
  where
    cases : (judged : Judgement) → (after_judged role config endpoint octets judged).taken ≡ 1
    cases Begun = refl
    cases (Whole frame) = refl
    cases (Wrong kind) = refl

octet-taken : (role : Role) (config : Config role) (endpoint : Endpoint) (octet : ℕ)
    → refusal_in endpoint.end.phase ≡ None → (after_octet role config endpoint octet).taken ≡ 1
octet-taken role config endpoint octet e =
    let octets = endpoint.unfinished ++ octet ∷ [] in
    ap (λ refusal.
    (unless_over endpoint refusal
    (after_octets role config endpoint octets (awaits_opening role endpoint.end.phase))).taken) e
    ∙ octets-taken role config endpoint octets (awaits_opening role endpoint.end.phase)

octet-within : (role : Role) (config : Config role) (endpoint : Endpoint) (octet : ℕ)
    → (after_octet role config endpoint octet).taken ≤ 1
octet-within role config endpoint octet = cases (refusal_in endpoint.end.phase)
  where
    cases : (refusal : Option Fault)
        → (unless_over endpoint refusal (after_octets role config endpoint (endpoint.unfinished ++ octet ∷ [])
        (awaits_opening role endpoint.end.phase))).taken ≤ 1
    cases None =
        let one = octets-taken role config endpoint (endpoint.unfinished ++ octet ∷ [])
        (awaits_opening role endpoint.end.phase) in
        omega arith
    cases (Some fault) = omega arith

pub feed-progresses : FeedProgresses
feed-progresses role config endpoint [] c f some = absurd (some refl)
feed-progresses role config endpoint (octet ∷ later) c f some = cases (after_octet role config endpoint octet).outcome
  where
    cases : (outcome : Outcome)
        → 0 < (fed_after (after_octet role config endpoint octet) outcome
        (after_feed role config (after_octet role config endpoint octet).endpoint later)).taken
    cases Unfinished = omega arith
    cases (Finished event) =
        let one = octet-taken role config endpoint octet (not-over endpoint.end.phase c f) in
        omega arith
    cases (Found fault) =
        let one = octet-taken role config endpoint octet (not-over endpoint.end.phase c f) in
        omega arith

pub feed-within : (role : Role) (config : Config role) (endpoint : Endpoint) (piece : List ℕ)
    → FeedTakesWithin role config endpoint piece
feed-within role config endpoint [] = cases (refusal_in endpoint.end.phase)
  where
    cases : (refusal : Option Fault)
        → (unless_over endpoint refusal (record { endpoint = endpoint; taken = 0; outcome = Unfinished })).taken ≤ 0
    cases None = omega arith
    cases (Some fault) = omega arith
feed-within role config endpoint (octet ∷ later) =
    cases (after_octet role config endpoint octet).outcome
    (feed-within role config (after_octet role config endpoint octet).endpoint later)
  where
    cases : (outcome : Outcome) → FeedTakesWithin role config (after_octet role config endpoint octet).endpoint later
        → (fed_after (after_octet role config endpoint octet) outcome
        (after_feed role config (after_octet role config endpoint octet).endpoint later)).taken ≤ suc (length later)
    cases Unfinished more = omega arith
    cases (Finished event) more = let one = octet-within role config endpoint octet in omega arith
    cases (Found fault) more = let one = octet-within role config endpoint octet in omega arith

pub feed-all : (role : Role) (config : Config role) (endpoint : Endpoint) (piece : List ℕ)
    → FeedTakesAll role config endpoint piece
feed-all role config endpoint [] e = cases (refusal_in endpoint.end.phase)
  where
    cases : (refusal : Option Fault)
        → (unless_over endpoint refusal (record { endpoint = endpoint; taken = 0; outcome = Unfinished })).taken ≡ 0
    cases None = refl
    cases (Some fault) = refl
feed-all role config endpoint (octet ∷ later) e =
    cases (after_octet role config endpoint octet).outcome refl e
    (feed-all role config (after_octet role config endpoint octet).endpoint later)
  where
    cases : (outcome : Outcome) → (after_octet role config endpoint octet).outcome ≡ outcome
        → (fed_after (after_octet role config endpoint octet) outcome
        (after_feed role config (after_octet role config endpoint octet).endpoint later)).outcome ≡ Unfinished
        → FeedTakesAll role config (after_octet role config endpoint octet).endpoint later
        → (fed_after (after_octet role config endpoint octet) outcome
        (after_feed role config (after_octet role config endpoint octet).endpoint later)).taken ≡ suc (length later)
    cases Unfinished o e more = ap suc (more e)
    cases (Finished event) o e more = absurd cc
    cases (Found fault) o e more = absurd cc
