-- A piece that is fed at once comes to what its octets come to, one by one.
use Rattle.std.proofs.Common.{◌≡◌, ◌≢◌, ◌⊎◌, inl, inr, Bool, true, false, cond, not, ◌&&◌}
use Rattle.std.proofs.Common.{◌==◌, ℕ, zero, suc, ◌+◌, ◌-◌, ◌<◌, ◌≤◌, List, [], ◌∷◌}
use Rattle.std.proofs.Common.{◌++◌, All, length, take, slice_index, None, refl, sym, ap, ◌∙◌, subst, arith}
use Rattle.std.proofs.Common.{append_assoc, append-nil, length-append}
use Rattle.std.proofs.lemmas.Bool.{true≢false, cases_lt, eq-eqb, eqb-true}
use Rattle.std.proofs.lemmas.List.{take_all, take_at, take-append-le, get_or_at}
use Rattle.std.proofs.lemmas.List.Elements.{All-append}
use Rattle.amqp_frame.specs.declared.faults.FrameFaultKind.{FrameFaultKind}
use Rattle.amqp_frame.specs.declared.faults.FrameFaultKind.TheVariants.{UnknownType, TooLarge, BadEnd, OutOfMemory}
use Rattle.amqp_frame.specs.declared.faults.FrameFaultKind.TheVariants.{Failed}
use Rattle.amqp_frame.specs.Frame.{octets, Fits, frame_length}
use Rattle.amqp_frame.specs.Splitting.{BeginsWithFrame, Tells, TellsFirst, IsRest, size_of}
use Rattle.amqp_frame.specs.Stream.{Stream}
use Rattle.amqp_frame.specs.Splitter.{ToldAt, place_after}
use Rattle.amqp_frame.proofs.FrameLemmas.{one_frame, size-at_start, length-octets}
use Rattle.amqp_frame.specs.Judging.{IsBegun}
use Rattle.amqp_frame.proofs.SplittingLemmas.{begun_prefix_tells_none, begun_is_rest, begun_prefix}
use Rattle.amqp_model.specs.Wire.Frame.{Frame}
use Rattle.amqp_model.specs.Wire.Notes.{Role, Client, Server}
use Rattle.amqp_model.specs.End.Channels.{Phase, Handshake, Running, Closing, Closed, Failed}
use Rattle.amqp_model.specs.History.Negotiation.{Config, frame_limit}
use Rattle.amqp_model.specs.End.Events.{FrameVerdict, Proceeds, RefusesContent, Faults}
use Rattle.amqp_model.specs.End.FrameVerdict.{Facts}
use Rattle.amqp_model.specs.End.EndVerdict.{facts_at, end_verdict, takes_octets}
use Rattle.amqp_model.specs.Stream.Octets.{opening_read}
use Rattle.amqp_model.specs.Stream.Endpoint.{Judgement, Begun, Whole, Wrong, judged, Comparison, Prefix, Same, Differs}
use Rattle.amqp_model.specs.Stream.Endpoint.{compared, Endpoint, Outcome, Unfinished, Finished, Found, Feeding}
use Rattle.amqp_model.specs.Stream.Endpoint.{refusal_in, unless_over, holds_octets, awaits_opening, after_opening}
use Rattle.amqp_model.specs.Stream.Endpoint.{outcome_of, after_judged, after_octets, after_octet, fed_after, after_feed}
use Rattle.amqp_model.specs.Laws.OctetLaws.{IsOctet, IsJudgedWell, then_fed}
use Rattle.amqp_model.specs.Stream.Pieces.{IsProperPrefixOf, reads_frames, AreBegun, with_taken, IsFedBy}
use Rattle.amqp_model.specs.Stream.Pieces.{FeedGivesFrame, FeedWaits, FaultFed, FeedFindsFault, FeedBeginsOpening}
use Rattle.amqp_model.specs.Stream.Pieces.{FeedEndsOpening, FeedLeavesOpening}
use Rattle.amqp_model.proofs.OctetJudging.{judged-well, one-said, begun-rest, prefix-octets}
use Rattle.amqp_model.proofs.OctetCuts.{cut-goes-on}
use Rattle.amqp_model.proofs.OctetHistories.{compared-last}

-- Rests.

rest-prefix : (limit : ℕ) (xs ys : List ℕ) → All IsOctet (xs ++ ys)
    → IsRest limit (xs ++ ys) → IsRest limit xs
rest-prefix limit xs ys all rest =
    begun_is_rest limit xs (subst (IsBegun limit) (take_at xs ys (length xs) refl)
    (begun_prefix limit (length xs) (xs ++ ys) (let l = length-append xs ys in
    omega arith) (begun-rest limit (xs ++ ys) all rest)))

-- octets before the last of a frame are a rest
frame-rest : (limit : ℕ) (frame : Frame) (xs : List ℕ) (octet : ℕ) → Fits frame → frame_length frame ≤ limit
    → xs ++ octet ∷ [] ≡ octets frame → IsRest limit xs
frame-rest limit frame xs octet fits within e =
    record {
      no_frame = no-frame;
      no_fault = λ kind told. begun_prefix_tells_none limit frame xs
          (octet ∷ []) [] kind fits within (append-nil (octets frame) ∙ sym e) told;
    }
  where
    no-frame : BeginsWithFrame xs → ⊥
    no-frame (other, tail, other_fits, x) =
        none (one_frame frame other [] (tail ++ octet ∷ []) fits other_fits (append-nil (octets frame)
        ∙ (sym e ∙ (ap (λ l. l ++ octet ∷ []) x ∙ append_assoc (octets other) tail (octet ∷ []))))).1
      where
        none : [] ≡ tail ++ octet ∷ [] → ⊥
        none e = let l = ap length e in let m = length-append tail (octet ∷ []) in absurd (omega arith)

-- octets before the first that shows a fault are a rest
fault-rest : (limit : ℕ) (xs : List ℕ) (octet : ℕ) (kind : FrameFaultKind)
    → TellsFirst limit (xs ++ octet ∷ []) kind (length xs) → IsRest limit xs
fault-rest limit xs octet kind told =
    record {
      no_frame = no-frame;
      no_fault = λ other tells. told.first (length xs) other (omega arith)
          (subst (λ l. Tells limit l other) (sym (take_at xs (octet ∷ []) (length xs) refl)) tells);
    }
  where
    no_fault : (other : FrameFaultKind) → Tells limit xs other → ⊥
    no_fault other tells =
        told.first (length xs) other (omega arith)
        (subst (λ l. Tells limit l other) (sym (take_at xs (octet ∷ []) (length xs) refl)) tells)

    whole : Tells limit (xs ++ octet ∷ []) kind
    whole =
        subst (λ l. Tells limit l kind)
        (take_all (length xs + 1) (xs ++ octet ∷ []) (let l = length-append xs (octet ∷ []) in
        omega arith)) told.told

    no-frame : BeginsWithFrame xs → ⊥
    no-frame (frame, tail, fits, x) = cases (cases_lt limit (frame_length frame))
      where
        cases : (limit < frame_length frame) ⊎ (frame_length frame ≤ limit) → ⊥
        cases (inl large) =
            let size : size_of xs ≡ length frame.payload = ap size_of x ∙ size-at_start frame tail fits in
            let long : length xs ≡ length (octets frame) + length tail = ap length x
            ∙ length-append (octets frame) tail in
            no_fault TooLarge (let l = length-octets frame in omega arith, omega arith)
        cases (inr within) =
            begun_prefix_tells_none limit frame (xs ++ octet ∷ []) [] (tail ++ octet ∷ []) kind fits within
            (sym (append-nil _
            ∙ (ap (λ l. l ++ octet ∷ []) x ∙ append_assoc (octets frame) tail (octet ∷ [])))) whole

-- One octet.

-- the end with these octets unfinished
abbrev with_unfinished : Endpoint → List ℕ → Endpoint
with_unfinished endpoint xs = record { end = endpoint.end; unfinished = xs; output = endpoint.output }

-- what the next octet comes to, where the end is not over
octet-comes : (role : Role) (config : Config role) (endpoint : Endpoint) (octet : ℕ) (awaits : Bool)
    → refusal_in endpoint.end.phase ≡ None → awaits_opening role endpoint.end.phase ≡ awaits
    → after_octet role config endpoint octet ≡ after_octets role config endpoint
    (endpoint.unfinished ++ octet ∷ []) awaits
octet-comes role config endpoint octet awaits r a =
    ap (λ refusal.
    unless_over endpoint refusal (after_octets role config endpoint (endpoint.unfinished ++ octet ∷ [])
    (awaits_opening role endpoint.end.phase))) r
    ∙ ap (after_octets role config endpoint (endpoint.unfinished ++ octet ∷ [])) a

octet-judged : (role : Role) (config : Config role) (endpoint : Endpoint) (octet : ℕ) (j : Judgement)
    → refusal_in endpoint.end.phase ≡ None → awaits_opening role endpoint.end.phase ≡ false
    → judged (frame_limit endpoint.end.agreed) (endpoint.unfinished ++ octet ∷ []) ≡ j
    → after_octet role config endpoint octet ≡ after_judged role config endpoint
    (endpoint.unfinished ++ octet ∷ []) j
octet-judged role config endpoint octet j r a e =
    octet-comes role config endpoint octet false r a
    ∙ ap (after_judged role config endpoint (endpoint.unfinished ++ octet ∷ [])) e

octet-compared : (role : Role) (config : Config role) (endpoint : Endpoint) (octet : ℕ) (c : Comparison)
    → refusal_in endpoint.end.phase ≡ None → awaits_opening role endpoint.end.phase ≡ true
    → compared (endpoint.unfinished ++ octet ∷ []) (opening_read role) ≡ c
    → after_octet role config endpoint octet ≡ after_opening role config endpoint
    (endpoint.unfinished ++ octet ∷ []) c
octet-compared role config endpoint octet c r a e =
    octet-comes role config endpoint octet true r a
    ∙ ap (after_opening role config endpoint (endpoint.unfinished ++ octet ∷ [])) e

-- Pieces of which nothing comes.

-- each octet goes on
data AllGoOn (role : Role) (config : Config role) : Endpoint → List ℕ → Type 0 where
  none : {endpoint : Endpoint} → AllGoOn role config endpoint []
  more : {endpoint : Endpoint} {octet : ℕ} {later : List ℕ} → after_octet role config endpoint octet
      ≡ holds_octets endpoint (endpoint.unfinished ++ octet ∷ [])
      → AllGoOn role config (with_unfinished endpoint (endpoint.unfinished ++ octet ∷ [])) later
      → AllGoOn role config endpoint (octet ∷ later)

all-taken : (role : Role) (config : Config role) (endpoint : Endpoint) (piece : List ℕ)
    → refusal_in endpoint.end.phase ≡ None → AllGoOn role config endpoint piece
    → after_feed role config endpoint piece
    ≡ with_taken (length piece) (holds_octets endpoint (endpoint.unfinished ++ piece))
all-taken role config endpoint [] r none =
    ap (λ refusal. unless_over endpoint refusal (record { endpoint = endpoint; taken = 0; outcome = Unfinished })) r
    ∙ ap (λ xs. with_taken 0 (holds_octets endpoint xs)) (sym (append-nil endpoint.unfinished))
all-taken role config endpoint (octet ∷ later) r (more first rest) =
    ap (λ (feeding : Feeding). fed_after feeding feeding.outcome (after_feed role config feeding.endpoint later)) first
    ∙ (ap (λ (feeding : Feeding). record {
      endpoint = feeding.endpoint;
      taken = suc feeding.taken;
      outcome = feeding.outcome;
    })
    (all-taken role config (with_unfinished endpoint (endpoint.unfinished ++ octet ∷ [])) later r rest)
    ∙ ap (λ xs. with_taken (suc (length later)) (holds_octets endpoint xs))
    (append_assoc endpoint.unfinished (octet ∷ []) later))

rest-goes-on : (role : Role) (config : Config role) (endpoint : Endpoint) (piece : List ℕ)
    → refusal_in endpoint.end.phase ≡ None → awaits_opening role endpoint.end.phase ≡ false
    → All IsOctet (endpoint.unfinished ++ piece)
    → IsRest (frame_limit endpoint.end.agreed) (endpoint.unfinished ++ piece) → AllGoOn role config endpoint piece
rest-goes-on role config endpoint [] r a all rest = none
rest-goes-on role config endpoint (octet ∷ later) r a all rest =
    let limit = frame_limit endpoint.end.agreed in
    let so_far = endpoint.unfinished ++ octet ∷ [] in
    let joined = append_assoc endpoint.unfinished (octet ∷ []) later in
    let all_here : All IsOctet (so_far ++ later) = subst (All IsOctet) (sym joined) all in
    let rest_here : IsRest limit (so_far ++ later) = subst (IsRest limit) (sym joined) rest in
    let here : IsRest limit so_far = rest-prefix limit so_far later all_here rest_here in
    let before : IsRest limit endpoint.unfinished = rest-prefix limit endpoint.unfinished (octet ∷ later) all rest in
    more (octet-judged role config endpoint octet Begun r a
    (one-said limit so_far (judged limit so_far) Begun
    (judged-well limit endpoint.unfinished octet (prefix-octets so_far later all_here) before) here))
    (rest-goes-on role config (with_unfinished endpoint so_far) later r a all_here rest_here)

-- Pieces of which something comes.

fed-first : (new later : Feeding) (outcome : Outcome) → outcome ≢ Unfinished → fed_after new outcome later ≡ new
fed-first new later Unfinished some = absurd (some refl)
fed-first new later (Finished event) some = refl
fed-first new later (Found fault) some = refl

-- what the octet after octets that go on comes to is what the piece comes to
ends-at : (role : Role) (config : Config role) (endpoint : Endpoint) (before : List ℕ) (octet : ℕ) (rest : List ℕ)
    (new : Feeding) → refusal_in endpoint.end.phase ≡ None → AllGoOn role config endpoint before
    → after_octet role config (with_unfinished endpoint (endpoint.unfinished ++ before)) octet ≡ new
    → new.outcome ≢ Unfinished → after_feed role config endpoint (before ++ octet ∷ rest)
    ≡ with_taken (length before + new.taken) new
ends-at role config endpoint before octet rest new r goes e some =
    let so_far = all-taken role config endpoint before r goes in
    cut-goes-on role config endpoint before (octet ∷ rest) (ap (λ (feeding : Feeding). feeding.outcome) so_far)
    ∙ (ap (λ (feeding : Feeding). then_fed feeding (after_feed role config feeding.endpoint (octet ∷ rest))) so_far
    ∙ ap (λ (feeding : Feeding).
    then_fed (with_taken (length before) (holds_octets endpoint (endpoint.unfinished ++ before))) feeding)
    (ap (λ (feeding : Feeding). fed_after feeding feeding.outcome (after_feed role config feeding.endpoint rest)) e
    ∙ fed-first new (after_feed role config new.endpoint rest) new.outcome some))

outcome-comes : {role : Role} (facts : Facts role) (verdict : FrameVerdict) → outcome_of facts verdict ≢ Unfinished
outcome-comes facts (Faults fault) e = cc
outcome-comes facts (Proceeds event owed) e = cc
outcome-comes facts RefusesContent e = cc

-- A piece, cut after its octet number n.
data CutAfter (piece : List ℕ) : ℕ → Type 0 where
  at_start : CutAfter piece 0
  at_octet : (before : List ℕ) (octet : ℕ) (rest : List ℕ) → piece ≡ before ++ octet ∷ rest
      → CutAfter piece (suc (length before))

cut-after : (n : ℕ) (piece : List ℕ) → n ≤ length piece → CutAfter piece n
cut-after zero piece within = at_start
cut-after (suc n) [] within = absurd (omega arith)
cut-after (suc n) (first ∷ piece) within = cases n (cut-after n piece (omega arith))
  where
    cases : (n : ℕ) → CutAfter piece n → CutAfter (first ∷ piece) (suc n)
    cases _ at_start = at_octet [] first piece refl
    cases _ (at_octet before octet rest e) = at_octet (first ∷ before) octet rest (ap (λ l. first ∷ l) e)

take-cut : (before : List ℕ) (octet : ℕ) (rest : List ℕ) → take (suc (length before)) (before ++ octet ∷ rest)
    ≡ before ++ octet ∷ []
take-cut [] octet rest = refl
take-cut (x ∷ before) octet rest = ap (λ l. x ∷ l) (take-cut before octet rest)

-- Frames.

pub reads-none : (role : Role) (phase : Phase) → reads_frames role phase ≡ true → (refusal_in phase ≡ None)
    × (awaits_opening role phase ≡ false)
reads-none role phase e = (
  not-refused phase (both (takes_octets phase) (awaits_opening role phase) e).0,
  (both (takes_octets phase) (awaits_opening role phase) e).1,
)
  where
    both : (a b : Bool) → (a && not b) ≡ true → (a ≡ true) × (b ≡ false)
    both true false e = (refl, refl)
    both true true e = absurd (true≢false (sym e))
    both false b e = absurd (true≢false (sym e))

    not-refused : (phase : Phase) → takes_octets phase ≡ true → refusal_in phase ≡ None
    not-refused (Handshake step) e = refl
    not-refused Running e = refl
    not-refused Closing e = refl
    not-refused Closed e = absurd (true≢false (sym e))
    not-refused Failed e = absurd (true≢false (sym e))

module _ (role : Role) (config : Config role) (endpoint : Endpoint) (reads : reads_frames role endpoint.end.phase
    ≡ true) (begun : AreBegun (frame_limit endpoint.end.agreed) endpoint.unfinished) where
  -- the octets of a piece up to one of them
  module _ (before : List ℕ) (octet : ℕ) (rest : List ℕ) (all : All IsOctet (before ++ octet ∷ rest)) where
    abbrev so_far : List ℕ
    so_far = endpoint.unfinished ++ before

    are-octets : All IsOctet (so_far ++ octet ∷ [])
    are-octets =
        subst (All IsOctet) (sym (append_assoc endpoint.unfinished before (octet ∷ [])))
        (All-append IsOctet endpoint.unfinished (before ++ octet ∷ []) begun.are_octets
        (prefix-octets (before ++ octet ∷ []) rest
        (subst (All IsOctet) (sym (append_assoc before (octet ∷ []) rest)) all)))

    comes-at : (j : Judgement) → IsRest (frame_limit endpoint.end.agreed) so_far
        → IsJudgedWell (frame_limit endpoint.end.agreed) (so_far ++ octet ∷ []) j
        → (after_judged role config (with_unfinished endpoint so_far) (so_far ++ octet ∷ []) j).outcome
        ≢ Unfinished → after_feed role config endpoint (before ++ octet ∷ rest)
        ≡ with_taken
        (length before + (after_judged role config (with_unfinished endpoint so_far) (so_far ++ octet ∷ []) j).taken)
        (after_judged role config (with_unfinished endpoint so_far) (so_far ++ octet ∷ []) j)
    comes-at j is_rest well some =
        let limit = frame_limit endpoint.end.agreed in
        let can = reads-none role endpoint.end.phase reads in
        ends-at role config endpoint before octet rest _ can.0 (rest-goes-on role config endpoint before can.0 can.1
        (prefix-octets so_far (octet ∷ []) are-octets) is_rest)
        (octet-judged role config (with_unfinished endpoint so_far) octet j can.0 can.1
        (one-said limit (so_far ++ octet ∷ []) (judged limit (so_far ++ octet ∷ [])) j
        (judged-well limit so_far octet are-octets is_rest) well))
        some

    gives-frame : (frame : Frame) → Fits frame → frame_length frame ≤ frame_limit endpoint.end.agreed
        → so_far ++ octet ∷ [] ≡ octets frame → after_feed role config endpoint (before ++ octet ∷ rest)
        ≡ with_taken (length before + 1) (after_judged role config endpoint (so_far ++ octet ∷ []) (Whole frame))
    gives-frame frame fits within e =
        comes-at (Whole frame) (frame-rest (frame_limit endpoint.end.agreed) frame so_far octet fits within e)
        (record { is_frame = e; fits = fits; within = within })
        (outcome-comes (facts_at config endpoint.end frame.channel) (end_verdict config endpoint.end frame))

    finds-fault : (kind : FrameFaultKind) → TellsFirst (frame_limit endpoint.end.agreed) (so_far ++ octet ∷ []) kind
        (length so_far) → after_feed role config endpoint (before ++ octet ∷ rest)
        ≡ with_taken (length before + 1) (after_judged role config endpoint (so_far ++ octet ∷ []) (Wrong kind))
    finds-fault kind told =
        comes-at (Wrong kind) (fault-rest (frame_limit endpoint.end.agreed) so_far octet kind told)
        (record { place = length so_far; last = length-append so_far (octet ∷ []); told = told }) (λ e. cc)

same-after : (role : Role) (config : Config role) (endpoint : Endpoint) (j : Judgement) (before : List ℕ)
    (octet : ℕ) (rest piece : List ℕ) → piece ≡ before ++ octet ∷ rest
    → with_taken (length before + 1)
    (after_judged role config endpoint ((endpoint.unfinished ++ before) ++ octet ∷ []) j)
    ≡ with_taken (suc (length before))
    (after_judged role config endpoint (endpoint.unfinished ++ take (suc (length before)) piece) j)
same-after role config endpoint j before octet rest piece e =
    let n : length before + 1 ≡ suc (length before) = omega arith in
    ap (λ taken.
    with_taken taken (after_judged role config endpoint ((endpoint.unfinished ++ before) ++ octet ∷ []) j)) n
    ∙ ap (λ xs. with_taken (suc (length before)) (after_judged role config endpoint xs j))
    (append_assoc endpoint.unfinished before (octet ∷ [])
    ∙ ap (λ l. endpoint.unfinished ++ l) (sym (ap (take (suc (length before))) e ∙ take-cut before octet rest)))

pub feed-gives-frame : (role : Role) (config : Config role) (endpoint : Endpoint) (stream : Stream) (piece : List ℕ)
    (taken : ℕ) (frame : Frame) → FeedGivesFrame role config endpoint stream piece taken frame
feed-gives-frame role config endpoint stream piece taken frame fed within c =
    cases taken (cut-after taken piece within) is_frame
  where
    begun : AreBegun (frame_limit endpoint.end.agreed) endpoint.unfinished
    begun = fed.holds.of_frame fed.reads

    is_frame : endpoint.unfinished ++ take taken piece ≡ octets frame
    is_frame = ap (λ l. l ++ take taken piece) (sym fed.splits.pending) ∙ c.is_frame

    cases : (n : ℕ) → CutAfter piece n → endpoint.unfinished ++ take n piece ≡ octets frame
        → after_feed role config endpoint piece
        ≡ with_taken n (after_judged role config endpoint (endpoint.unfinished ++ take n piece) (Whole frame))
    cases _ at_start e =
        absurd (begun.rest.no_frame (
          frame,
          [],
          c.fits,
          sym (append-nil endpoint.unfinished)
              ∙ (e ∙ sym (append-nil (octets frame))),
        ))
    cases _ (at_octet before octet rest p) e =
        ap (after_feed role config endpoint) p
        ∙ (gives-frame role config endpoint fed.reads begun before octet rest (subst (All IsOctet) p fed.are_octets)
        frame c.fits (subst (λ limit. frame_length frame ≤ limit) fed.splits.limit c.within)
        (append_assoc endpoint.unfinished before (octet ∷ [])
        ∙ (ap (λ l. endpoint.unfinished ++ l)
        (sym (ap (take (suc (length before))) p ∙ take-cut before octet rest)) ∙ e))
        ∙ same-after role config endpoint (Whole frame) before octet rest piece p)

pub feed-waits : (role : Role) (config : Config role) (endpoint : Endpoint) (stream : Stream) (piece : List ℕ)
    (taken : ℕ) → FeedWaits role config endpoint stream piece taken
feed-waits role config endpoint stream piece taken fed waits =
    let can = reads-none role endpoint.end.phase fed.reads in
    let rest : IsRest (frame_limit endpoint.end.agreed) (endpoint.unfinished ++ piece) =
    subst (λ limit. IsRest limit (endpoint.unfinished ++ piece)) fed.splits.limit
    (subst (λ l. IsRest stream.limit (l ++ piece)) fed.splits.pending waits.rest) in
    all-taken role config endpoint piece can.0
    (rest-goes-on role config endpoint piece can.0 can.1
    (All-append IsOctet endpoint.unfinished piece (fed.holds.of_frame fed.reads).are_octets fed.are_octets) rest)
    ∙ ap (λ taken. with_taken taken (holds_octets endpoint (endpoint.unfinished ++ piece))) (sym waits.all)

-- what a longer row tells first is told first by its prefix that has the octet
told-prefix : (limit : ℕ) (xs ys : List ℕ) (kind : FrameFaultKind) (place : ℕ) → length xs ≡ place + 1
    → TellsFirst limit (xs ++ ys) kind place → TellsFirst limit xs kind place
told-prefix limit xs ys kind place l told = record {
  within = omega arith;
  told = subst (λ l. Tells limit l kind) (take-append-le (place + 1) xs ys (omega arith)) told.told;
  first = λ n other before tells.
      told.first n other before (subst (λ l. Tells limit l other) (sym (take-append-le n xs ys (omega arith))) tells);
}

told-fault : (role : Role) (config : Config role) (endpoint : Endpoint) (stream : Stream) (piece : List ℕ)
    (kind : FrameFaultKind) (at : ℕ) → IsFedBy role endpoint stream piece → ToldAt stream piece kind at
    → FaultFed role config endpoint stream piece kind at
told-fault role config endpoint stream piece kind at fed told =
    cases (told.place - length stream.pending) refl (cut-after (suc (told.place - length stream.pending)) piece before)
  where
    same_length : length stream.pending ≡ length endpoint.unfinished
    same_length = ap length fed.splits.pending

    before : suc (told.place - length stream.pending) ≤ length piece
    before =
        let l = length-append stream.pending piece in
        let within = told.told.within in
        let after = told.after in
        omega arith

    tells : TellsFirst (frame_limit endpoint.end.agreed) (endpoint.unfinished ++ piece) kind told.place
    tells =
        subst (λ limit. TellsFirst limit (endpoint.unfinished ++ piece) kind told.place) fed.splits.limit
        (subst (λ l. TellsFirst stream.limit (l ++ piece) kind told.place) fed.splits.pending told.told)

    at-octet : (start : List ℕ) (octet : ℕ) (rest : List ℕ) → piece ≡ start ++ octet ∷ rest
        → told.place - length stream.pending ≡ length start → after_feed role config endpoint piece
        ≡ with_taken (length start + 1)
        (after_judged role config endpoint ((endpoint.unfinished ++ start) ++ octet ∷ []) (Wrong kind))
    at-octet start octet rest p n =
        let so_far = endpoint.unfinished ++ start in
        let joined : endpoint.unfinished ++ piece ≡ (so_far ++ octet ∷ []) ++ rest =
        ap (λ l. endpoint.unfinished ++ l) p ∙ (sym (append_assoc endpoint.unfinished start (octet ∷ rest))
        ∙ sym (append_assoc so_far (octet ∷ []) rest)) in
        let place : told.place ≡ length so_far = let l = length-append endpoint.unfinished start in
        let after = told.after in
        let same = same_length in
        omega (arith, l, after, same, n) in
        let here : TellsFirst (frame_limit endpoint.end.agreed) ((so_far ++ octet ∷ []) ++ rest) kind
        (length so_far) =
        subst (λ place. TellsFirst (frame_limit endpoint.end.agreed) ((so_far ++ octet ∷ []) ++ rest) kind place)
        place (subst (λ l. TellsFirst (frame_limit endpoint.end.agreed) l kind told.place) joined tells) in
        ap (after_feed role config endpoint) p
        ∙ finds-fault role config endpoint fed.reads (fed.holds.of_frame fed.reads) start octet rest
        (subst (All IsOctet) p fed.are_octets) kind
        (told-prefix (frame_limit endpoint.end.agreed) (so_far ++ octet ∷ []) rest kind (length so_far)
        (length-append so_far (octet ∷ [])) here)

    cases : (n : ℕ) → told.place - length stream.pending ≡ n → CutAfter piece (suc n)
        → FaultFed role config endpoint stream piece kind at
    cases _ e (at_octet start octet rest p) = record {
      before = length start;
      within = let l = ap length p in let m = length-append start (octet ∷ rest) in omega arith;
      at_is = told.at_is ∙ ap (place_after stream.taken) e;
      fed = at-octet start octet rest p e ∙ same-after role config endpoint (Wrong kind) start octet rest piece p;
    }

pub feed-finds-fault : (role : Role) (config : Config role) (endpoint : Endpoint) (stream : Stream) (piece : List ℕ)
    (kind : FrameFaultKind) (at : ℕ) → FeedFindsFault role config endpoint stream piece kind at
feed-finds-fault role config endpoint stream piece UnknownType at fed some told =
    told-fault role config endpoint stream piece UnknownType at fed told
feed-finds-fault role config endpoint stream piece TooLarge at fed some told =
    told-fault role config endpoint stream piece TooLarge at fed told
feed-finds-fault role config endpoint stream piece BadEnd at fed some told =
    told-fault role config endpoint stream piece BadEnd at fed told
feed-finds-fault role config endpoint stream piece OutOfMemory at fed some told = absurd (some refl)
feed-finds-fault role config endpoint stream piece Failed at fed some told = absurd told

-- The protocol header.

awaits-open : (role : Role) (phase : Phase) → awaits_opening role phase ≡ true → refusal_in phase ≡ None
awaits-open role (Handshake step) e = refl
awaits-open role Running e = refl
awaits-open role Closing e = refl
awaits-open Client Closed e = absurd (true≢false (sym e))
awaits-open Server Closed e = absurd (true≢false (sym e))
awaits-open Client Failed e = absurd (true≢false (sym e))
awaits-open Server Failed e = absurd (true≢false (sym e))

compared-prefix : (xs missing : List ℕ) → missing ≢ [] → compared xs (xs ++ missing) ≡ Prefix
compared-prefix [] [] some = absurd (some refl)
compared-prefix [] (next ∷ later) some = refl
compared-prefix (x ∷ xs) missing some =
    let same : (x == x) ≡ true = eq-eqb x x refl in
    simp same (compared-prefix xs missing some)

compared-same : (xs : List ℕ) → compared xs xs ≡ Same
compared-same [] = refl
compared-same (x ∷ xs) = let same : (x == x) ≡ true = eq-eqb x x refl in simp same (compared-same xs)

append-some : (xs ys : List ℕ) → ys ≢ [] → xs ++ ys ≢ []
append-some [] ys some e = some e
append-some (x ∷ xs) ys some e = cc

opening-goes-on : (role : Role) (config : Config role) (endpoint : Endpoint) (piece : List ℕ)
    → awaits_opening role endpoint.end.phase ≡ true
    → IsProperPrefixOf (endpoint.unfinished ++ piece) (opening_read role) → AllGoOn role config endpoint piece
opening-goes-on role config endpoint [] a proper = none
opening-goes-on role config endpoint (octet ∷ later) a (missing, some, e) =
    let so_far = endpoint.unfinished ++ octet ∷ [] in
    let joined : opening_read role ≡ so_far ++ (later ++ missing) = e
    ∙ (ap (λ l. l ++ missing) (sym (append_assoc endpoint.unfinished (octet ∷ []) later))
    ∙ append_assoc so_far later missing) in
    more (octet-compared role config endpoint octet Prefix (awaits-open role endpoint.end.phase a) a
    (ap (compared so_far) joined ∙ compared-prefix so_far (later ++ missing) (append-some later missing some)))
    (opening-goes-on role config (with_unfinished endpoint so_far) later a (
      missing,
      some,
      e
          ∙ ap (λ l. l ++ missing) (sym (append_assoc endpoint.unfinished (octet ∷ []) later)),
    ))

pub feed-begins-opening : (role : Role) (config : Config role) (endpoint : Endpoint) (piece : List ℕ)
    → FeedBeginsOpening role config endpoint piece
feed-begins-opening role config endpoint piece a proper =
    all-taken role config endpoint piece (awaits-open role endpoint.end.phase a)
    (opening-goes-on role config endpoint piece a proper)

-- what an octet of the piece comes to, after a prefix of the header
opening-ends : (role : Role) (config : Config role) (endpoint : Endpoint) (before : List ℕ) (octet : ℕ)
    (rest : List ℕ) (c : Comparison) → awaits_opening role endpoint.end.phase ≡ true
    → IsProperPrefixOf (endpoint.unfinished ++ before) (opening_read role)
    → compared ((endpoint.unfinished ++ before) ++ octet ∷ []) (opening_read role) ≡ c
    → (after_opening role config (with_unfinished endpoint (endpoint.unfinished ++ before))
    ((endpoint.unfinished ++ before) ++ octet ∷ []) c).outcome ≢ Unfinished
    → after_feed role config endpoint (before ++ octet ∷ rest)
    ≡ with_taken
    (length before + (after_opening role config (with_unfinished endpoint (endpoint.unfinished ++ before))
    ((endpoint.unfinished ++ before) ++ octet ∷ []) c).taken)
    (after_opening role config (with_unfinished endpoint (endpoint.unfinished ++ before))
    ((endpoint.unfinished ++ before) ++ octet ∷ []) c)
opening-ends role config endpoint before octet rest c a proper e some =
    let r = awaits-open role endpoint.end.phase a in
    ends-at role config endpoint before octet rest _ r (opening-goes-on role config endpoint before a proper)
    (octet-compared role config (with_unfinished endpoint (endpoint.unfinished ++ before)) octet c r a e) some

same-opening : (role : Role) (config : Config role) (endpoint : Endpoint) (c : Comparison) (before : List ℕ)
    (octet : ℕ) (rest piece : List ℕ) → piece ≡ before ++ octet ∷ rest
    → with_taken (length before + 1)
    (after_opening role config endpoint ((endpoint.unfinished ++ before) ++ octet ∷ []) c)
    ≡ with_taken (suc (length before))
    (after_opening role config endpoint (endpoint.unfinished ++ take (suc (length before)) piece) c)
same-opening role config endpoint c before octet rest piece e =
    let n : length before + 1 ≡ suc (length before) = omega arith in
    ap (λ taken.
    with_taken taken (after_opening role config endpoint ((endpoint.unfinished ++ before) ++ octet ∷ []) c)) n
    ∙ ap (λ xs. with_taken (suc (length before)) (after_opening role config endpoint xs c))
    (append_assoc endpoint.unfinished before (octet ∷ [])
    ∙ ap (λ l. endpoint.unfinished ++ l) (sym (ap (take (suc (length before))) e ∙ take-cut before octet rest)))

pub feed-ends-opening : (role : Role) (config : Config role) (endpoint : Endpoint) (piece : List ℕ) (taken : ℕ)
    → FeedEndsOpening role config endpoint piece taken
feed-ends-opening role config endpoint piece taken a holds within whole =
    cases taken (cut-after taken piece within) whole
  where
    cases : (n : ℕ) → CutAfter piece n → endpoint.unfinished ++ take n piece ≡ opening_read role
        → after_feed role config endpoint piece
        ≡ with_taken n (after_opening role config endpoint (endpoint.unfinished ++ take n piece) Same)
    cases _ at_start e = none (holds.of_opening a)
      where
        none : IsProperPrefixOf endpoint.unfinished (opening_read role) → after_feed role config endpoint piece
            ≡ with_taken 0 (after_opening role config endpoint (endpoint.unfinished ++ []) Same)
        none ([], some, w) = absurd (some refl)
        none (next ∷ later, some, w) =
            let l = ap length (e ∙ w) in
            let m = length-append endpoint.unfinished (next ∷ later) in
            let n = length-append endpoint.unfinished [] in
            absurd (omega arith)
    cases _ (at_octet before octet rest p) e =
        let so_far = endpoint.unfinished ++ before in
        let joined : so_far ++ octet ∷ [] ≡ opening_read role =
        append_assoc endpoint.unfinished before (octet ∷ [])
        ∙ (ap (λ l. endpoint.unfinished ++ l)
        (sym (ap (take (suc (length before))) p ∙ take-cut before octet rest)) ∙ e) in
        ap (after_feed role config endpoint) p
        ∙ (opening-ends role config endpoint before octet rest Same a (octet ∷ [], (λ n. cc), sym joined)
        (ap (compared (so_far ++ octet ∷ [])) (sym joined) ∙ compared-same (so_far ++ octet ∷ [])) (λ n. cc)
        ∙ same-opening role config endpoint Same before octet rest piece p)

pub feed-leaves-opening : (role : Role) (config : Config role) (endpoint : Endpoint) (piece : List ℕ) (before : ℕ)
    → FeedLeavesOpening role config endpoint piece before
feed-leaves-opening role config endpoint piece n a within proper other = cases n (cut-after (suc n) piece within) refl
  where
    cases : (k : ℕ) → CutAfter piece (suc k) → n ≡ k → after_feed role config endpoint piece
        ≡ with_taken (suc k) (after_opening role config endpoint (endpoint.unfinished ++ take (suc k) piece) Differs)
    cases k (at_octet before octet rest p) same =
        by-missing (subst (λ l. IsProperPrefixOf (endpoint.unfinished ++ l) (opening_read role)) taken proper)
      where
        taken : take n piece ≡ before
        taken =
            ap (λ k. take k piece) same
            ∙ (ap (take (length before)) p ∙ take_at before (octet ∷ rest) (length before) refl)

        by-missing : IsProperPrefixOf (endpoint.unfinished ++ before) (opening_read role)
            → after_feed role config endpoint piece ≡ with_taken (suc (length before))
            (after_opening role config endpoint (endpoint.unfinished ++ take (suc (length before)) piece) Differs)
        by-missing ([], some, w) = absurd (some refl)
        by-missing (wanted ∷ later, some, w) =
            let so_far = endpoint.unfinished ++ before in
            ap (after_feed role config endpoint) p
            ∙ (opening-ends role config endpoint before octet rest Differs a (wanted ∷ later, some, w)
            (ap (compared (so_far ++ octet ∷ [])) w
            ∙ (compared-last so_far octet wanted later ∙ differs)) (λ n. cc)
            ∙ same-opening role config endpoint Differs before octet rest piece p)
          where
            here : slice_index piece n ≡ octet
            here =
                ap (λ k. slice_index piece k) same
                ∙ (ap (λ l. slice_index l (length before)) p ∙ get_or_at before octet rest 0 (length before) refl)

            there : slice_index (opening_read role) (length endpoint.unfinished + n) ≡ wanted
            there =
                let l : length endpoint.unfinished + n ≡ length (endpoint.unfinished ++ before) = let m =
                length-append endpoint.unfinished before in
                omega arith in
                ap (λ k. slice_index (opening_read role) k) l
                ∙ (ap (λ xs. slice_index xs (length (endpoint.unfinished ++ before))) w
                ∙ get_or_at (endpoint.unfinished ++ before) wanted later 0
                (length (endpoint.unfinished ++ before)) refl)

            not-same : (b : Bool) → (octet == wanted) ≡ b → b ≡ false
            not-same true e = absurd (other (here ∙ (eqb-true octet wanted e ∙ sym there)))
            not-same false e = refl

            differs : cond (octet == wanted) (compared [] later) Differs ≡ Differs
            differs = ap (λ b. cond b (compared [] later) Differs) (not-same (octet == wanted) refl)
