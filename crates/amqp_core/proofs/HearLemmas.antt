-- Octets of the protocol header: what comes of each comparison, and what holds of the end then.
use Rattle.std.proofs.Common.{◌≡◌, ◌≢◌, inr, ◌+◌, ◌-◌, ◌<◌, ◌≤◌, true, get_or, ℕ, suc, List, [], ◌++◌, map, length, take, drop, slice_index, Option, Some, None, Result, Ok, Err, refl, ap, sym, ◌∙◌, subst, arith}
use Rattle.std.proofs.Math.Seq.{take-length}
use Rattle.std.proofs.lemmas.Bool.{true≢false, false≢true}
use Rattle.std.proofs.lemmas.List.{append-nil, length-drop, length-take-le, take-append-drop}
use Rattle.amqp_frame.specs.Stream.{Stream}
use Rattle.amqp_model.specs.End.Channels.{Channel, End, Phase, Handshake, AwaitsStartOk, Running, Closing, Closed, Failed}
use Rattle.amqp_model.specs.End.Closes.{frame_of}
use Rattle.amqp_model.specs.Stream.Endpoint as model
use Rattle.amqp_model.specs.Stream.Endpoint.{Differs, Feeding, after_feed, after_opening, awaits_opening, owed_at_start, output_of}
use Rattle.amqp_model.specs.End.EndVerdict.{takes_octets}
use Rattle.amqp_model.specs.End.Events.{Event, Quiet}
use Rattle.amqp_model.specs.End.Machine.{as_failed, end_after_owed}
use Rattle.amqp_model.specs.History.Negotiation.{Config, PROTOCOL_HEADER, frame_limit}
use Rattle.amqp_model.specs.Wire.Notes.{Role, Client, Server}
use Rattle.amqp_model.specs.Stream.Octets.{opening_read}
use Rattle.amqp_model.specs.Output.Outputs.{Output, after_puts}
use Rattle.amqp_model.specs.Stream.Pieces.{IsProperPrefixOf, HoldsUnfinished, FeedBeginsOpening, FeedEndsOpening, FeedHolds, FeedLeavesOpening, with_taken}
use Rattle.amqp_core.specs.Faults.Answering.{ran_out}
use Rattle.amqp_core.specs.End.EndpointView.{FieldsFit, unfinished_of}
use Rattle.amqp_core.specs.End.Feeding.{IsFed, Seen}
use Rattle.amqp_core.specs.Connection.Outcomes.{SameEnd}
use Rattle.amqp_core.specs.declared.faults.CoreFault.{CoreFault}
use Rattle.amqp_core.specs.declared.faults.CoreFault.TheVariants as core
use Rattle.amqp_core.proofs.FeedLemmas.{are_octets, holds_left}

opening_is : (role : Role) (phase : Phase) → awaits_opening role phase ≡ true → opening_read role ≡ PROTOCOL_HEADER
opening_is Client phase e = absurd (false≢true e)
opening_is Server phase e = refl

pub awaits_octets : (role : Role) (phase : Phase) → awaits_opening role phase ≡ true → takes_octets phase ≡ true
awaits_octets Client phase e = absurd (false≢true e)
awaits_octets Server (Handshake step) e = refl
awaits_octets Server Running e = refl
awaits_octets Server Closing e = refl
awaits_octets Server Closed e = absurd (false≢true e)
awaits_octets Server Failed e = absurd (false≢true e)

-- nothing but what was heard is unfinished
pub heard_is : (heard : ℕ) (pending : List ℕ) → pending ≡ [] → unfinished_of heard pending ≡ take heard PROTOCOL_HEADER
heard_is heard pending none = ap (unfinished_of heard) none ∙ append-nil (take heard PROTOCOL_HEADER)

pub heard_length : (heard : ℕ) (pending : List ℕ) → pending ≡ [] → heard < 8 → length (unfinished_of heard pending) ≡ heard
heard_length heard pending none within =
    ap (λ (xs : List ℕ). length xs) (heard_is heard pending none) ∙ length-take-le heard PROTOCOL_HEADER (omega (arith, within))

some_left : (count : ℕ) → count < 8 → drop count PROTOCOL_HEADER ≢ []
some_left count h e =
    let many : 8 - count ≡ 0 = sym (length-drop count PROTOCOL_HEADER) ∙ ap (λ (xs : List ℕ). length xs) e in omega (arith, h, many)

-- so many octets of the header are a proper prefix of it
pub begun : (role : Role) (phase : Phase) (count : ℕ) (octets : List ℕ) → awaits_opening role phase ≡ true → count < 8 → octets ≡ take count PROTOCOL_HEADER → IsProperPrefixOf octets (opening_read role)
begun role phase count octets awaits h e =
    (drop count PROTOCOL_HEADER, some_left count h, opening_is role phase awaits ∙ (sym (take-append-drop count PROTOCOL_HEADER) ∙ ap (λ (xs : List ℕ). xs ++ drop count PROTOCOL_HEADER) (sym e)))

pub same_end : (one other : End) → one ≡ other → SameEnd one other
same_end one other e = subst (SameEnd one) e (record { phase = refl; agreed = refl; no_channel = refl; channels = λ running. refl })

-- The rest of the header came.
pub whole_fed : (role : Role) (config : Config role) (event : Option Event) (end new : End) (heard count : ℕ) (pending piece : List ℕ) (output put : Output) →
    let old : model.Endpoint = record { end = end; unfinished = unfinished_of heard pending; output = output } in
    FeedEndsOpening role config old piece count → awaits_opening role end.phase ≡ true → HoldsUnfinished role old → pending ≡ [] → count ≤ length piece → heard + count ≡ 8 → take heard PROTOCOL_HEADER ++ take count piece ≡ take (heard + count) PROTOCOL_HEADER
    → new ≡ end_after_owed role config (owed_at_start role config) end → put ≡ after_puts (map frame_of (owed_at_start role config)) output → event ≡ Some Quiet
    → IsFed (Ok (record { octets = count; event = event })) old (after_feed role config old piece) (record { end = new; unfinished = unfinished_of 0 pending; output = put })
whole_fed role config event end new heard count pending piece output put law awaits holds none within all same ends puts quiet =
    let old : model.Endpoint = record { end = end; unfinished = unfinished_of heard pending; output = output } in
    let whole : unfinished_of heard pending ++ take count piece ≡ opening_read role =
    ap (λ (xs : List ℕ). xs ++ take count piece) (heard_is heard pending none) ∙ (same ∙ (ap (λ n. take n PROTOCOL_HEADER) all ∙ sym (opening_is role end.phase awaits))) in
    subst (λ (f : Feeding). IsFed (Ok (record { octets = count; event = event })) old f (record { end = new; unfinished = unfinished_of 0 pending; output = put })) (sym (law awaits holds within whole))
    (record { answer = sym quiet; taken = refl; left = record { end = same_end _ new (sym ends); unfinished = sym none; output = sym puts } })

-- A part of it came.
pub part_fed : (role : Role) (config : Config role) (event : Option Event) (end : End) (heard count : ℕ) (pending piece : List ℕ) (output : Output) →
    let old : model.Endpoint = record { end = end; unfinished = unfinished_of heard pending; output = output } in
    FeedBeginsOpening role config old piece → awaits_opening role end.phase ≡ true → pending ≡ [] → count ≡ length piece → heard + count < 8 → take heard PROTOCOL_HEADER ++ take count piece ≡ take (heard + count) PROTOCOL_HEADER → event ≡ None
    → IsFed (Ok (record { octets = count; event = event })) old (after_feed role config old piece) (record { end = end; unfinished = unfinished_of (heard + count) pending; output = output })
part_fed role config event end heard count pending piece output law awaits none all within same quiet =
    let old : model.Endpoint = record { end = end; unfinished = unfinished_of heard pending; output = output } in
    let all_taken : take count piece ≡ piece = ap (λ n. take n piece) all ∙ take-length piece in
    let is : unfinished_of heard pending ++ piece ≡ take (heard + count) PROTOCOL_HEADER =
    ap (λ (xs : List ℕ). xs ++ piece) (heard_is heard pending none) ∙ (ap (λ (xs : List ℕ). take heard PROTOCOL_HEADER ++ xs) (sym all_taken) ∙ same) in
    subst (λ (f : Feeding). IsFed (Ok (record { octets = count; event = event })) old f (record { end = end; unfinished = unfinished_of (heard + count) pending; output = output })) (sym (law awaits (begun role end.phase (heard + count) (unfinished_of heard pending ++ piece) awaits within is)))
    (record { answer = quiet; taken = all; left = record { end = same_end end end refl; unfinished = is ∙ sym (heard_is (heard + count) pending none); output = refl } })

-- An octet differs.

differs_so : (role : Role) (config : Config role) (end : End) (heard count : ℕ) (pending piece : List ℕ) (output : Output) →
    let old : model.Endpoint = record { end = end; unfinished = unfinished_of heard pending; output = output } in
    FeedLeavesOpening role config old piece count → awaits_opening role end.phase ≡ true → pending ≡ [] → heard < 8 → count < length piece → heard + count < 8 → take heard PROTOCOL_HEADER ++ take count piece ≡ take (heard + count) PROTOCOL_HEADER
    → slice_index piece count ≢ slice_index PROTOCOL_HEADER (heard + count)
    → after_feed role config old piece ≡ with_taken (suc count) (after_opening role config old (unfinished_of heard pending ++ take (suc count) piece) Differs)
differs_so role config end heard count pending piece output law awaits none heard_within within room same differs =
    let is : unfinished_of heard pending ++ take count piece ≡ take (heard + count) PROTOCOL_HEADER = ap (λ (xs : List ℕ). xs ++ take count piece) (heard_is heard pending none) ∙ same in
    let many = heard_length heard pending none heard_within in
    let there : slice_index piece count ≢ slice_index (opening_read role) (length (unfinished_of heard pending) + count) =
    λ e. differs (e ∙ (ap (λ (xs : List ℕ). slice_index xs (length (unfinished_of heard pending) + count)) (opening_is role end.phase awaits) ∙ ap (λ n. slice_index PROTOCOL_HEADER (n + count)) many)) in
    law awaits within (begun role end.phase (heard + count) (unfinished_of heard pending ++ take count piece) awaits room is) there

pub other_fed : (role : Role) (config : Config role) (end new : End) (heard count : ℕ) (pending piece : List ℕ) (output put : Output) →
    let old : model.Endpoint = record { end = end; unfinished = unfinished_of heard pending; output = output } in
    FeedLeavesOpening role config old piece count → awaits_opening role end.phase ≡ true → pending ≡ [] → heard < 8 → count < length piece → heard + count < 8 → take heard PROTOCOL_HEADER ++ take count piece ≡ take (heard + count) PROTOCOL_HEADER
    → slice_index piece count ≢ slice_index PROTOCOL_HEADER (heard + count) → new ≡ as_failed end → put ≡ output_of PROTOCOL_HEADER
    → IsFed (Err core.Fatal) old (after_feed role config old piece) (record { end = new; unfinished = unfinished_of 0 pending; output = put })
other_fed role config end new heard count pending piece output put law awaits none heard_within within room same differs ends puts =
    let old : model.Endpoint = record { end = end; unfinished = unfinished_of heard pending; output = output } in
    subst (λ (f : Feeding). IsFed (Err core.Fatal) old f (record { end = new; unfinished = unfinished_of 0 pending; output = put })) (sym (differs_so role config end heard count pending piece output law awaits none heard_within within room same differs))
    (record { answer = inr refl; taken = tt; left = record { end = same_end _ new (sym ends); unfinished = sym none; output = sym puts } })

-- so many octets were taken then
pub other_taken : (role : Role) (config : Config role) (end : End) (heard count : ℕ) (pending piece : List ℕ) (output : Output) →
    let old : model.Endpoint = record { end = end; unfinished = unfinished_of heard pending; output = output } in
    FeedLeavesOpening role config old piece count → awaits_opening role end.phase ≡ true → pending ≡ [] → heard < 8 → count < length piece → heard + count < 8 → take heard PROTOCOL_HEADER ++ take count piece ≡ take (heard + count) PROTOCOL_HEADER
    → slice_index piece count ≢ slice_index PROTOCOL_HEADER (heard + count) → (after_feed role config old piece).taken ≡ count + 1
other_taken role config end heard count pending piece output law awaits none heard_within within room same differs =
    ap (λ (f : Feeding). f.taken) (differs_so role config end heard count pending piece output law awaits none heard_within within room same differs) ∙ omega arith

-- What is unfinished then.
pub piece_holds : (role : Role) (config : Config role) (old new : model.Endpoint) (piece : List ℕ) (result : Result Seen CoreFault) → FeedHolds role config old piece → HoldsUnfinished role old → ((i : ℕ) → get_or piece i 0 < 256) → IsFed result old (after_feed role config old piece) new → HoldsUnfinished role new
piece_holds role config old new piece result law holds octets fed =
    holds_left role (ran_out result) old (after_feed role config old piece).endpoint new fed.left (law holds (are_octets piece octets))

-- the fields, where more of the header is awaited
pub fields_part : (role : Role) (end : End) (heard more : ℕ) (stream : Stream) → awaits_opening role end.phase ≡ true → FieldsFit role end heard stream → more < 8 → FieldsFit role end more stream
fields_part role end heard more stream awaits fit within = record {
  agreed = fit.agreed;
  opening = fit.opening;
  opened = λ e. absurd (false≢true (sym e ∙ awaits));
  awaited = λ e. absurd (false≢true (sym e ∙ awaits));
  within = within;
  over = fit.over;
  ready = fit.ready;
}

-- and where start is put
pub fields_greeted : (role : Role) (old new : End) (channels : ℕ → Channel) (heard : ℕ) (stream : Stream) → awaits_opening role old.phase ≡ true → takes_octets old.phase ≡ true → old.agreed ≡ None → FieldsFit role old heard stream → new ≡ record { phase = Handshake AwaitsStartOk; agreed = None; channels = channels } → FieldsFit role new 0 stream
fields_greeted role old new channels heard stream awaits octets none fit is = subst (λ (e : End). FieldsFit role e 0 stream) (sym is) (record {
  agreed = tt;
  opening = λ e. fit.opening awaits;
  opened = λ e. refl;
  awaited = λ e. refl;
  within = omega arith;
  over = λ e. absurd (true≢false e);
  ready = λ e. record { running = (fit.ready octets).running; limit_is = (fit.ready octets).limit_is ∙ ap frame_limit none };
})
