-- What comes of a piece that an end is fed, beside what the definitions say.
use Rattle.std.specs.Prelude.{◌≡◌, cond, ℕ, [], Option, Some, None, Result, Ok, Err}
use Rattle.amqp_model.specs.Stream.Endpoint as model
use Rattle.amqp_model.specs.Stream.Endpoint.{Outcome, Feeding}
use Rattle.amqp_model.specs.End.Events as events
use Rattle.amqp_model.specs.End.Machine.{as_failed}
use Rattle.amqp_channel.specs.Events.EventView.{event_there}
use Rattle.amqp_core.specs.Faults.Answering.{AnswersEvent, Reports, ran_out}
use Rattle.amqp_core.specs.Connection.Outcomes.{SameEnd}
use Rattle.amqp_core.specs.declared.taken.Taken.{Taken}
use Rattle.amqp_core.specs.declared.faults.CoreFault.{CoreFault}

-- What is answered to a piece, in the words of the model: how many octets were taken, and the event that they told.
pub record Seen : Type 0 where
  pub octets : ℕ
  pub event : Option events.Event

abbrev pub seen : Result Taken CoreFault → Result Seen CoreFault
seen (Ok taken) = Ok (record { octets = taken.octets; event = event_there taken.event })
seen (Err fault) = Err fault

abbrev pub AnswersPiece : Result Seen CoreFault → Outcome → Type 0
AnswersPiece (Ok taken) outcome = AnswersEvent taken.event outcome
AnswersPiece (Err fault) outcome = Reports fault outcome

-- so many octets were taken, where that is answered
abbrev pub CountsTaken : Result Seen CoreFault → ℕ → Type 0
CountsTaken (Ok taken) count = taken.octets ≡ count
CountsTaken (Err fault) count = Unit {0}

-- the same, to all who look: of an end that has failed only its phase, what was agreed and channel 0 are looked at
pub record SameEndpoint (one other : model.Endpoint) : Type 0 where
  pub end : SameEnd one.end other.end
  pub unfinished : one.unfinished ≡ other.unfinished
  pub output : one.output ≡ other.output

-- out of memory: the end has failed, keeps no unfinished octets, and has to write what it had
abbrev pub ran_out_of : model.Endpoint → model.Endpoint
ran_out_of old = record { end = as_failed old.end; unfinished = []; output = old.output }

-- The answer, the octets taken and what is left are those of the definitions. Out of memory, nothing was done.
pub record IsFed (result : Result Seen CoreFault) (old : model.Endpoint) (fed : Feeding)
    (new : model.Endpoint) : Type 0 where
  pub answer : AnswersPiece result fed.outcome
  pub taken : CountsTaken result fed.taken
  pub left : SameEndpoint (cond (ran_out result) (ran_out_of old) fed.endpoint) new

-- what is answered to a piece of which so many octets were taken, and that told this event
abbrev pub taken_with : {A : Type 0} → Result A CoreFault → (octets : ℕ) → Option events.Event → Result Seen CoreFault
taken_with (Ok done) octets event = Ok (record { octets = octets; event = event })
taken_with (Err fault) octets event = Err fault

-- the event that is answered
abbrev pub event_in : Result Seen CoreFault → Option events.Event
event_in (Ok taken) = taken.event
event_in (Err fault) = None

-- a message is told
abbrev pub IsMessage : Option events.Event → Type 0
IsMessage (Some (events.Told channel message)) = Unit {0}
IsMessage event = ⊥

-- what a message that is told leaves as it was: all but its channel
pub record SameButChannels (one other : model.Endpoint) : Type 0 where
  pub phase : one.end.phase ≡ other.end.phase
  pub agreed : one.end.agreed ≡ other.end.agreed
  pub no_channel : one.end.channels 0 ≡ other.end.channels 0
  pub output : one.output ≡ other.output
