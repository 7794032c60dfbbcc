-- What an end answers of itself is what its history counts.
use Rattle.std.proofs.Common.{◌≡◌, ◌<◌, ◌≤◌, Bool, true, false, cond, ℕ, zero, suc, List, length, Option, refl, sym, ap, ◌∙◌, subst, arith}
use Rattle.std.proofs.Math.Logic.{∥∥₁_elim}
use Rattle.std.proofs.lemmas.Bool.{true≢false, false≢true}
use Rattle.std.specs.Coded.{Coded, Coded-set, code_by, coded_option, coded×, coded_ℕ}
use Rattle.std.specs.Prelude.{unwrap_or}
use Rattle.amqp_method.specs.Kinds.{kind_with}
use Rattle.amqp_method.specs.Methods.{row}
use Rattle.amqp_method.specs.declared.kinds.Kind.TheVariants as kinds
use Rattle.amqp_method.proofs.KindLemmas.{kind_with-own}
use Rattle.amqp_model.specs.End.Answers as answers
use Rattle.amqp_model.specs.End.Answers.{channel_state, first_request}
use Rattle.amqp_model.specs.Laws.AnswersInWords.{GatheredIsUnderWay, NoneIsGathered, StateIsOfNotes, taken_on}
use Rattle.amqp_model.specs.End.Asks.{channel_max}
use Rattle.amqp_model.specs.End.Channels as channels
use Rattle.amqp_model.specs.End.Channels.{Agreed, Channel, End, Free, Opening, Closing, Life, Handshake, HandshakeStep, Running, Closed, state_of}
use Rattle.amqp_model.specs.Wire.Contents.{Payload, UnderWay, body_octets}
use Rattle.amqp_model.specs.Laws.EndLaws.{AnswersOfHistory, ReadsChannel, ReadsState, notes_on}
use Rattle.amqp_model.specs.End.EndVerdict.{takes_octets}
use Rattle.amqp_model.specs.Stream.Endpoint.{Endpoint}
use Rattle.amqp_model.specs.End.Fitting.{ConfigWrites}
use Rattle.amqp_model.specs.Laws.FittingLaws.{AllReadsBack}
use Rattle.amqp_model.specs.Wire.Gathering.{Nothing, Gathers}
use Rattle.amqp_model.specs.History.Histories.{History, entries_on}
use Rattle.amqp_model.specs.Pair.InTurn.{DueIsFirst, life_here, unanswered_at}
use Rattle.amqp_model.specs.End.LawfulHistories.{Lawful}
use Rattle.amqp_model.specs.History.Lives as lives
use Rattle.amqp_model.specs.End.Machine.{StandsFor}
use Rattle.amqp_model.specs.Wire.Methods.{MethodKind}
use Rattle.amqp_model.specs.History.Negotiation.{Config, frame_limit}
use Rattle.amqp_model.specs.Wire.Notes.{Role}
use Rattle.amqp_model.specs.Laws.OctetLaws.{EndpointStandsFor}
use Rattle.amqp_model.specs.Stream.Octets.{FedAs}
use Rattle.amqp_model.specs.End.ReadingBack.{WritesReadBack}
use Rattle.amqp_model.specs.End.StateFromHistory.{has_put, is_closed, is_negotiated, step_from}
use Rattle.amqp_model.specs.History.States as states
use Rattle.amqp_model.specs.History.States.{State}
use Rattle.amqp_core.specs.End.Counted.{AgreedIs, DueIs, GatheredIs, IsOpenBy, PendingIs, PhaseIs, StateIs, agreed_counted, is_failed, phase_counted}
use Rattle.amqp_core.specs.Connection.Stages.{phase_name}
use Rattle.amqp_core.specs.Traced.Tracing as tracing
use Rattle.amqp_core.specs.Traced.Tracing.{IsTraceOf, Kept, Stands}
use Rattle.amqp_core.specs.declared.stage.Phase.{Phase}

-- A channel whose state is Open has a life.

abbrev is_open_state : State → Bool
is_open_state states.Open = true
is_open_state state = false

open_life : (channel : Channel) → state_of channel ≡ states.Open → (life : Life) × (channel ≡ channels.Open life)
open_life Free e = absurd (false≢true (ap is_open_state e))
open_life Opening e = absurd (false≢true (ap is_open_state e))
open_life Closing e = absurd (false≢true (ap is_open_state e))
open_life (channels.Open life) e = (life, refl)

-- what a record of a channel reads
pub record Reads (role : Role) (end : End) (history : History) : Type 0 where
  pub channel : (n : ℕ) → ReadsChannel role (end.channels (suc n)) (entries_on (suc n) history)
  pub state : (n : ℕ) → ReadsState role (entries_on (suc n) history)

life_kept : (role : Role) (config : Config role) (end : End) (history : History) (n : ℕ) → Reads role end history → StandsFor role config false end history
    → lives.state role (notes_on (suc n) history) ≡ states.Open → (life : Life) × (end.channels (suc n) ≡ channels.Open life)
life_kept role config end history n reads stands e =
    open_life (end.channels (suc n)) (ap state_of (sym (reads.channel n (stands.channels refl n))) ∙ (reads.state n ∙ e))

-- The phase, and what was agreed.

pub phase_is : (role : Role) (config : Config role) (failed : Bool) (end : End) (history : History) (phase : Phase) → StandsFor role config failed end history → phase ≡ phase_name end.phase → PhaseIs role failed history phase
phase_is role config failed end history phase stands e = e ∙ ap phase_name (sym stands.phase)

pub agreed_is : (role : Role) (config : Config role) (failed : Bool) (end : End) (history : History) (agreed : Option Agreed) → StandsFor role config failed end history → agreed ≡ end.agreed → AgreedIs role config history agreed
agreed_is role config failed end history agreed stands e = e ∙ sym stands.agreed

-- The state of a channel.

of_notes : (role : Role) (config : Config role) (failed : Bool) (end : End) (history : History) (number : ℕ) (state : State)
    → ((n : ℕ) → StateIsOfNotes role config end history n) → StandsFor role config failed end history → state ≡ channel_state end number
    → 0 < number → number ≤ channel_max (agreed_counted role config history) → takes_octets (phase_counted role failed history) ≡ true
    → state ≡ lives.state role (notes_on number history)
of_notes role config true end history number state law stands e above within on = absurd (false≢true on)
of_notes role config false end history zero state law stands e above within on = absurd (omega (arith, above))
of_notes role config false end history (suc n) state law stands e above within on =
    e ∙ law n stands (subst (λ (p : channels.Phase). takes_octets p ≡ true) stands.phase on) (subst (λ (a : Option Agreed). suc n ≤ channel_max a) stands.agreed within)

pub state_is : (role : Role) (config : Config role) (failed : Bool) (end : End) (history : History) (number : ℕ) (state : State)
    → AnswersOfHistory role config failed end history number → ((n : ℕ) → StateIsOfNotes role config end history n)
    → StandsFor role config failed end history → state ≡ channel_state end number → StateIs role config failed history number state
state_is role config failed end history number state law notes stands e = record {
  counted = e ∙ (law stands).state;
  of_notes = of_notes role config failed end history number state notes stands e;
}

-- The unfinished octets.

pub pending_is : (role : Role) (config : Config role) (endpoint : Endpoint) (history : History) (fed written : List ℕ) (count : ℕ)
    → EndpointStandsFor role config endpoint history fed written → count ≡ length endpoint.unfinished → PendingIs role config history fed count
pending_is role config endpoint history fed written count stands e = record {
  unfinished = endpoint.unfinished;
  read = subst (λ (a : Option Agreed). FedAs role (frame_limit a) history fed endpoint.unfinished) (sym stands.stands.agreed) stands.read;
  counted = e;
}

-- The octets of a body.

under_way : (role : Role) (config : Config role) (failed : Bool) (end : End) (history : History) (number count : ℕ)
    → Reads role end history → ((n : ℕ) (life : Life) (since : List Payload) → GatheredIsUnderWay role config end history n life since)
    → StandsFor role config failed end history → count ≡ answers.octets_gathered end number
    → phase_counted role failed history ≡ Running → IsOpenBy role failed history number → (since : List Payload) → UnderWay (taken_on number history) since → count ≡ length (body_octets since)
under_way role config true end history number count reads law stands e running there since way = absurd (false≢true there.goes_on)
under_way role config false end history zero count reads law stands e running there since way = absurd (omega (arith, there.above))
under_way role config false end history (suc n) count reads law stands e running there since way =
    let life = life_kept role config end history n reads stands there.open_there in
    e ∙ law n life.0 since stands (sym stands.phase ∙ running) life.1 way

none_kept : (role : Role) (config : Config role) (failed : Bool) (end : End) (history : History) (number count : ℕ)
    → Reads role end history → ((n : ℕ) (life : Life) → NoneIsGathered role config end history n life)
    → StandsFor role config failed end history → count ≡ answers.octets_gathered end number
    → phase_counted role failed history ≡ Running → IsOpenBy role failed history number → Gathers (taken_on number history) Nothing → count ≡ 0
none_kept role config true end history number count reads law stands e running there none = absurd (false≢true there.goes_on)
none_kept role config false end history zero count reads law stands e running there none = absurd (omega (arith, there.above))
none_kept role config false end history (suc n) count reads law stands e running there none =
    let life = life_kept role config end history n reads stands there.open_there in
    e ∙ law n life.0 stands (sym stands.phase ∙ running) life.1 none

pub gathered_is : (role : Role) (config : Config role) (failed : Bool) (end : End) (history : History) (number count : ℕ)
    → AnswersOfHistory role config failed end history number → Reads role end history
    → ((n : ℕ) (life : Life) (since : List Payload) → GatheredIsUnderWay role config end history n life since) → ((n : ℕ) (life : Life) → NoneIsGathered role config end history n life)
    → StandsFor role config failed end history → count ≡ answers.octets_gathered end number → GatheredIs role config failed history number count
gathered_is role config failed end history number count law reads way none stands e = record {
  counted = e ∙ (law stands).octets;
  under_way = under_way role config failed end history number count reads way stands e;
  none = none_kept role config failed end history number count reads none stands e;
}

-- The request without a reply.

first_there : (role : Role) (config : Config role) (failed : Bool) (end : End) (history : History) (number : ℕ) (request : Option MethodKind)
    → Reads role end history → ((n : ℕ) (life : Life) → DueIsFirst role config end history n life) → WritesReadBack role config → Lawful role config failed history
    → StandsFor role config failed end history → request ≡ answers.reply_due end number
    → IsOpenBy role failed history number → request ≡ first_request (unanswered_at role number (life_here role number history) history)
first_there role config true end history number request reads law writes lawful stands e there = absurd (false≢true there.goes_on)
first_there role config false end history zero request reads law writes lawful stands e there = absurd (omega (arith, there.above))
first_there role config false end history (suc n) request reads law writes lawful stands e there =
    let life = life_kept role config end history n reads stands there.open_there in
    e ∙ law n life.0 writes lawful stands life.1 (subst (λ (p : channels.Phase). takes_octets p ≡ true) stands.phase there.goes_on)

-- requests are equal in one way only, since a kind is told by its ids

kind_code : Coded MethodKind
kind_code =
    code_by (ℕ × ℕ) (coded× coded_ℕ coded_ℕ) (λ kind. ((row kind).class, (row kind).id)) (λ ids. unwrap_or (kind_with ids.0 ids.1) kinds.ConnectionStart)
    (λ kind. ap (λ found. unwrap_or found kinds.ConnectionStart) (kind_with-own kind))

request_set : (one other : Option MethodKind) → IsProp (one ≡ other)
request_set one other = Coded-set (coded_option kind_code) one other

pub due_is : (role : Role) (config : Config role) (failed : Bool) (end : End) (history : History) (number : ℕ) (request : Option MethodKind)
    → AnswersOfHistory role config failed end history number → Reads role end history → ((n : ℕ) (life : Life) → DueIsFirst role config end history n life)
    → AllReadsBack role config → ∥ ConfigWrites config ∥₁ → Lawful role config failed history
    → StandsFor role config failed end history → request ≡ answers.reply_due end number → DueIs role config failed history number request
due_is role config failed end history number request law reads due back writes lawful stands e = record {
  counted = e ∙ (law stands).request;
  first = λ there. ∥∥₁_elim writes (request_set _ _) (λ w. first_there role config failed end history number request reads due (back w) lawful stands e there);
}

-- An end that is kept with its history: whether it has failed is seen by its phase.

goes_unfailed : (closed left negotiated : Bool) (step : HandshakeStep) → false ≡ is_failed (cond closed Closed (cond left channels.Phase.Closing (cond negotiated Running (Handshake step))))
goes_unfailed true left negotiated step = refl
goes_unfailed false true negotiated step = refl
goes_unfailed false false true step = refl
goes_unfailed false false false step = refl

not_failed : (role : Role) (config : Config role) (end : End) (history : History) → StandsFor role config false end history → false ≡ is_failed end.phase
not_failed role config end history stands =
    let entries = entries_on 0 history in
    goes_unfailed (is_closed entries) (has_put kinds.ConnectionClose entries) (is_negotiated role entries) (step_from role entries) ∙ ap is_failed stands.phase

-- the end's record stands for the history, which is lawful
pub record Standing (role : Role) (config : Config role) (kept : Kept) (history : History) : Type 0 where
  pub stands : StandsFor role config (is_failed kept.endpoint.end.phase) kept.endpoint.end history
  pub lawful : Lawful role config (is_failed kept.endpoint.end.phase) history

pub standing : (role : Role) (config : Config role) (kept : Kept) (history : History) → Stands role config kept history → Standing role config kept history
standing role config kept history (tracing.stands stands) =
    let mark : false ≡ is_failed kept.endpoint.end.phase = not_failed role config kept.endpoint.end history stands.stands in
    record { stands = subst (λ (b : Bool). StandsFor role config b kept.endpoint.end history) mark stands.stands; lawful = subst (λ (b : Bool). Lawful role config b history) mark stands.lawful }
standing role config kept history (tracing.failed limit opening opens failed shown) =
    let mark : true ≡ is_failed kept.endpoint.end.phase = ap is_failed failed.stands.phase in
    record { stands = subst (λ (b : Bool). StandsFor role config b kept.endpoint.end history) mark failed.stands; lawful = subst (λ (b : Bool). Lawful role config b history) mark failed.lawful }
standing role config kept history (tracing.ran_out unfinished out) =
    let mark : true ≡ is_failed kept.endpoint.end.phase = ap is_failed (sym out.failed) in
    record { stands = subst (λ (b : Bool). StandsFor role config b kept.endpoint.end history) mark out.stands; lawful = subst (λ (b : Bool). Lawful role config b history) mark out.lawful }

-- until a fault it stands for its history with the octets fed
unfailed : (role : Role) (config : Config role) (kept : Kept) (history : History) → Stands role config kept history → is_failed kept.endpoint.end.phase ≡ false → EndpointStandsFor role config kept.endpoint history kept.fed kept.written
unfailed role config kept history (tracing.stands stands) e = stands
unfailed role config kept history (tracing.failed limit opening opens failed shown) e = absurd (true≢false (ap is_failed failed.stands.phase ∙ e))
unfailed role config kept history (tracing.ran_out unfinished out) e = absurd (true≢false (ap is_failed (sym out.failed) ∙ e))

pub traced_pending_is : (role : Role) (config : Config role) (kept : Kept) (history : History) (count : ℕ) → IsTraceOf role config kept history → count ≡ length kept.endpoint.unfinished
    → is_failed kept.endpoint.end.phase ≡ false → PendingIs role config history kept.fed count
traced_pending_is role config kept history count traced e on =
    pending_is role config kept.endpoint history kept.fed kept.written count (unfailed role config kept history traced.stands on) e

-- until a fault its record stands for its history
pub unfailed_stands : (role : Role) (config : Config role) (kept : Kept) (history : History) → IsTraceOf role config kept history → is_failed kept.endpoint.end.phase ≡ false → StandsFor role config false kept.endpoint.end history
unfailed_stands role config kept history traced on = (unfailed role config kept history traced.stands on).stands
