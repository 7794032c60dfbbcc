-- What is told of octets in which an end finds fault.
use Rattle.std.proofs.Common.{◌≡◌, Bool, true, false, cond, ◌==◌, nat_lt, ℕ, ◌+◌, List, [], ◌∷◌}
use Rattle.std.proofs.Common.{◌++◌, length, slice_index, Option, Some, None, refl, sym, ap, ◌∙◌, subst}
use Rattle.std.proofs.lemmas.Bool.{false≢true}
use Rattle.amqp_frame.specs.Frame.{END}
use Rattle.amqp_frame.specs.Splitting.{size_of}
use Rattle.amqp_frame.specs.declared.faults.FrameFaultKind.{FrameFaultKind}
use Rattle.amqp_frame.specs.declared.faults.FrameFaultKind.TheVariants.{UnknownType, TooLarge, BadEnd}
use Rattle.amqp_frame.specs.declared.frames.FrameKind.{FrameKind}
use Rattle.amqp_model.specs.Wire.Frame.{Frame}
use Rattle.amqp_model.specs.Wire.Notes.{Role}
use Rattle.amqp_model.specs.Wire.Readings.{reading}
use Rattle.amqp_model.specs.End.Channels.{Phase, Closed, Failed, End}
use Rattle.amqp_model.specs.History.Negotiation.{Config, frame_limit}
use Rattle.amqp_model.specs.End.Events.{FrameVerdict, Proceeds, RefusesContent, Faults}
use Rattle.amqp_model.specs.End.FrameVerdict.{Facts, verdict_on}
use Rattle.amqp_model.specs.End.EndVerdict.{facts_at, takes_octets}
use Rattle.amqp_model.specs.Stream.Octets.{opening_read}
use Rattle.amqp_model.specs.Stream.Endpoint.{Judgement, Begun, Whole, Wrong, frame_in, kind_of_type, judged_by_end}
use Rattle.amqp_model.specs.Stream.Endpoint.{judged_by_size, judged_by_type, judged, Comparison, Prefix, Same, Differs}
use Rattle.amqp_model.specs.Stream.Endpoint.{compared, Endpoint, Feeding, Outcome, Unfinished, Finished, Found}
use Rattle.amqp_model.specs.Stream.Endpoint.{refusal_in, unless_over, awaits_opening, outcome_of, after_opening}
use Rattle.amqp_model.specs.Stream.Endpoint.{after_judged, after_octets, after_octet, fed_after, after_feed}
use Rattle.amqp_model.specs.End.Blame.{Finding, maybe_told_of}
use Rattle.amqp_model.specs.Stream.BlameAtOctets.{blame_of_octets, blame_of_opening, blame_of_judged, blame_of_next}
use Rattle.amqp_model.specs.Stream.BlameAtOctets.{blame_at_octet, blame_then, blame_in_feed}
use Rattle.amqp_model.specs.Laws.BlameLaws.{TellsFinding, FeedTells}
use Rattle.amqp_model.proofs.Blaming.{Agree, agree}

-- octets that are wrong are so in one of three ways
data Shows : FrameFaultKind → Type 0 where
  a_type : Shows UnknownType
  a_size : Shows TooLarge
  an_end : Shows BadEnd

abbrev IsShown : Judgement → Type 0
IsShown (Wrong kind) = Shows kind
IsShown judgement = Unit {0}

either : (b : Bool) (one other : Judgement) → IsShown one → IsShown other → IsShown (cond b one other)
either true one other h k = h
either false one other h k = k

judged-shown : (limit : ℕ) (octets : List ℕ) → IsShown (judged limit octets)
judged-shown limit [] = tt
judged-shown limit (first ∷ later) = by-type (kind_of_type first)
  where
    by-type : (kind : Option FrameKind) → IsShown (judged_by_type limit kind (first ∷ later))
    by-type None = a_type
    by-type (Some kind) =
        either (nat_lt (length (first ∷ later)) 7) Begun (judged_by_size limit kind (first ∷ later)) tt
        (either (nat_lt limit (size_of (first ∷ later) + 8)) (Wrong TooLarge) _ a_size
        (either (nat_lt (length (first ∷ later)) (size_of (first ∷ later) + 8)) Begun
        (judged_by_end kind (first ∷ later)) tt
        (either (slice_index (first ∷ later) (size_of (first ∷ later) + 7) == END)
        (Whole (frame_in kind (first ∷ later))) (Wrong BadEnd) tt an_end)))

frame-tells : {role : Role} (facts : Facts role) (frame : Frame) (verdict : FrameVerdict) (finding : Finding)
    → Agree verdict finding → TellsFinding (outcome_of facts verdict) (maybe_told_of frame finding)
frame-tells facts frame (Faults fault) (Some rule) a = a
frame-tells facts frame (Faults fault) None a = absurd a
frame-tells facts frame (Proceeds event owed) (Some rule) a = absurd a
frame-tells facts frame (Proceeds event owed) None a = tt
frame-tells facts frame RefusesContent (Some rule) a = absurd a
frame-tells facts frame RefusesContent None a = tt

judged-tells : (role : Role) (config : Config role) (endpoint : Endpoint) (octets : List ℕ)
    → takes_octets endpoint.end.phase ≡ true → (judgement : Judgement) → IsShown judgement
    → TellsFinding (after_judged role config endpoint octets judgement).outcome
    (blame_of_judged config endpoint.end octets judgement)
judged-tells role config endpoint octets t Begun shown = tt
judged-tells role config endpoint octets t (Whole frame) shown =
    frame-tells (facts_at config endpoint.end frame.channel) frame _ _
    (agree (facts_at config endpoint.end frame.channel) (reading frame) t)
judged-tells role config endpoint octets t (Wrong kind) shown = by shown
  where
    by : {kind : FrameFaultKind} → Shows kind
        → TellsFinding (after_judged role config endpoint octets (Wrong kind)).outcome (blame_of_octets kind octets)
    by a_type = refl
    by a_size = refl
    by an_end = refl

opening-tells : (role : Role) (config : Config role) (endpoint : Endpoint) (octets : List ℕ) (comparison : Comparison)
    → TellsFinding (after_opening role config endpoint octets comparison).outcome (blame_of_opening comparison)
opening-tells role config endpoint octets Prefix = tt
opening-tells role config endpoint octets Same = tt
opening-tells role config endpoint octets Differs = refl

next-tells : (role : Role) (config : Config role) (endpoint : Endpoint) (octets : List ℕ)
    → takes_octets endpoint.end.phase ≡ true → (awaits : Bool)
    → TellsFinding (after_octets role config endpoint octets awaits).outcome
    (blame_of_next role config endpoint.end octets awaits)
next-tells role config endpoint octets t true =
    opening-tells role config endpoint octets (compared octets (opening_read role))
next-tells role config endpoint octets t false =
    judged-tells role config endpoint octets t (judged (frame_limit endpoint.end.agreed) octets)
    (judged-shown (frame_limit endpoint.end.agreed) octets)

not-over : (phase : Phase) → takes_octets phase ≡ true → refusal_in phase ≡ None
not-over Closed t = absurd (false≢true t)
not-over Failed t = absurd (false≢true t)
not-over phase t = refl

octet-is : (role : Role) (config : Config role) (endpoint : Endpoint) (octet : ℕ)
    → takes_octets endpoint.end.phase ≡ true → after_octet role config endpoint octet
    ≡ after_octets role config endpoint (endpoint.unfinished ++ octet ∷ []) (awaits_opening role endpoint.end.phase)
octet-is role config endpoint octet t =
    ap (λ refusal.
    unless_over endpoint refusal (after_octets role config endpoint (endpoint.unfinished ++ octet ∷ [])
    (awaits_opening role endpoint.end.phase))) (not-over endpoint.end.phase t)

octet-tells : (role : Role) (config : Config role) (endpoint : Endpoint) (octet : ℕ)
    → takes_octets endpoint.end.phase ≡ true
    → TellsFinding (after_octet role config endpoint octet).outcome (blame_at_octet role config endpoint octet)
octet-tells role config endpoint octet t =
    subst (λ (new : Feeding). TellsFinding new.outcome (blame_at_octet role config endpoint octet))
    (sym (octet-is role config endpoint octet t))
    (next-tells role config endpoint (endpoint.unfinished ++ octet ∷ []) t (awaits_opening role endpoint.end.phase))

-- where nothing came of an octet the end is as it was
abbrev IsSame : Endpoint → Feeding → Outcome → Type 0
IsSame endpoint new Unfinished = new.endpoint.end ≡ endpoint.end
IsSame endpoint new outcome = Unit {0}

judged-same : (role : Role) (config : Config role) (endpoint : Endpoint) (octets : List ℕ) (judgement : Judgement)
    → IsSame endpoint (after_judged role config endpoint octets judgement)
    (after_judged role config endpoint octets judgement).outcome
judged-same role config endpoint octets Begun = refl
judged-same role config endpoint octets (Whole frame) =
    by (verdict_on (facts_at config endpoint.end frame.channel) (reading frame))
  where
    by : (verdict : FrameVerdict) → IsSame endpoint (after_judged role config endpoint octets (Whole frame))
        (outcome_of (facts_at config endpoint.end frame.channel) verdict)
    by (Faults fault) = tt
    by (Proceeds event owed) = tt
    by RefusesContent = tt
judged-same role config endpoint octets (Wrong kind) = tt

opening-same : (role : Role) (config : Config role) (endpoint : Endpoint) (octets : List ℕ) (comparison : Comparison)
    → IsSame endpoint (after_opening role config endpoint octets comparison)
    (after_opening role config endpoint octets comparison).outcome
opening-same role config endpoint octets Prefix = refl
opening-same role config endpoint octets Same = tt
opening-same role config endpoint octets Differs = tt

next-same : (role : Role) (config : Config role) (endpoint : Endpoint) (octets : List ℕ) (awaits : Bool)
    → IsSame endpoint (after_octets role config endpoint octets awaits)
    (after_octets role config endpoint octets awaits).outcome
next-same role config endpoint octets true =
    opening-same role config endpoint octets (compared octets (opening_read role))
next-same role config endpoint octets false =
    judged-same role config endpoint octets (judged (frame_limit endpoint.end.agreed) octets)

octet-same : (role : Role) (config : Config role) (endpoint : Endpoint) (octet : ℕ)
    → takes_octets endpoint.end.phase ≡ true
    → IsSame endpoint (after_octet role config endpoint octet) (after_octet role config endpoint octet).outcome
octet-same role config endpoint octet t =
    subst (λ (new : Feeding). IsSame endpoint new new.outcome) (sym (octet-is role config endpoint octet t))
    (next-same role config endpoint (endpoint.unfinished ++ octet ∷ []) (awaits_opening role endpoint.end.phase))

pub feed-tells : FeedTells
feed-tells role config endpoint [] t =
    subst (λ refusal.
    TellsFinding (unless_over endpoint refusal (record {
      endpoint = endpoint;
      taken = 0;
      outcome = Unfinished;
    })).outcome None) (sym (not-over endpoint.end.phase t)) tt
feed-tells role config endpoint (octet ∷ later) t =
    by (after_octet role config endpoint octet).outcome refl (octet-same role config endpoint octet t)
    (octet-tells role config endpoint octet t)
    (λ same. feed-tells role config (after_octet role config endpoint octet).endpoint later
    (ap (λ (end : End). takes_octets end.phase) same ∙ t))
  where
    by : (outcome : Outcome) → (after_octet role config endpoint octet).outcome ≡ outcome
        → IsSame endpoint (after_octet role config endpoint octet) outcome
        → TellsFinding outcome (blame_at_octet role config endpoint octet)
        → ((after_octet role config endpoint octet).endpoint.end ≡ endpoint.end
        → TellsFinding (after_feed role config (after_octet role config endpoint octet).endpoint later).outcome
        (blame_in_feed role config (after_octet role config endpoint octet).endpoint later))
        → TellsFinding (fed_after (after_octet role config endpoint octet) outcome
        (after_feed role config (after_octet role config endpoint octet).endpoint later)).outcome
        (blame_then outcome (blame_at_octet role config endpoint octet)
        (blame_in_feed role config (after_octet role config endpoint octet).endpoint later))
    by Unfinished is same tells more = more same
    by (Finished event) is same tells more =
        subst (λ o. TellsFinding o (blame_at_octet role config endpoint octet)) (sym is) tells
    by (Found fault) is same tells more =
        subst (λ o. TellsFinding o (blame_at_octet role config endpoint octet)) (sym is) tells
