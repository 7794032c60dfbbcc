-- What an end answers to what it takes, beside what the definitions say comes of it.
use Rattle.std.specs.Prelude.{◌≡◌, ◌⊎◌, Bool, true, false, cond, Option, None, Result, Ok, Err}
use Rattle.amqp_frame.specs.declared.faults.FrameFaultKind.{FrameFaultKind}
use Rattle.amqp_model.specs.End.Channels.{End}
use Rattle.amqp_model.specs.Stream.Endpoint.{Outcome, Unfinished, Finished, Found, fault_told, owed_at_fault}
use Rattle.amqp_model.specs.End.Events as events
use Rattle.amqp_model.specs.End.Machine.{as_failed, end_after_owed, failed_by}
use Rattle.amqp_model.specs.History.Negotiation.{Config}
use Rattle.amqp_model.specs.Wire.Notes.{Role}
use Rattle.amqp_model.specs.Output.Outputs.{Output}
use Rattle.amqp_outbox.specs.OutboxView.{Outgoing, only}
use Rattle.amqp_channel.specs.Events.Closes.{code_view}
use Rattle.amqp_core.specs.Connection.Outcomes.{SameEnd}
use Rattle.amqp_core.specs.declared.faults.CoreFault.{CoreFault}
use Rattle.amqp_core.specs.declared.faults.CoreFault.TheVariants as core

-- an event or none comes of something that is whole, and none of octets that are not whole yet
abbrev pub AnswersEvent : Option events.Event → Outcome → Type 0
AnswersEvent event Unfinished = event ≡ None
AnswersEvent event (Finished told) = told ≡ event
AnswersEvent event (Found fault) = ⊥

-- A fault is the one that is found; another protocol header is one to which there is no answer. Out of memory is no
-- matter of the definitions.
abbrev pub Reports : CoreFault → Outcome → Type 0
Reports (core.Peer code) outcome = outcome ≡ Found (events.Peer (code_view code))
Reports core.Fatal outcome = (outcome ≡ Found events.Fatal) ⊎ (outcome ≡ Found events.WrongProtocolHeader)
Reports core.OutOfMemory outcome = Unit {0}
Reports core.Failed outcome = outcome ≡ Found events.AlreadyFailed
Reports core.Closed outcome = outcome ≡ Found events.AlreadyClosed

-- what is answered to a frame
abbrev pub AnswersFrame : Result (Option events.Event) CoreFault → Outcome → Type 0
AnswersFrame (Ok event) outcome = AnswersEvent event outcome
AnswersFrame (Err fault) outcome = Reports fault outcome

-- the answer to a frame that tells this event
abbrev pub answer_with : {A : Type 0} → Result A CoreFault → Option events.Event
    → Result (Option events.Event) CoreFault
answer_with (Ok done) event = Ok event
answer_with (Err fault) event = Err fault

-- memory was refused
abbrev pub is_out_of_memory : CoreFault → Bool
is_out_of_memory core.OutOfMemory = true
is_out_of_memory fault = false

abbrev pub ran_out : {A : Type 0} → Result A CoreFault → Bool
ran_out (Ok value) = false
ran_out (Err fault) = is_out_of_memory fault

-- the end is left as the definitions say, or has failed out of memory
abbrev pub EndsAs : {A : Type 0} → Result A CoreFault → (old next new : End) → Type 0
EndsAs result old next new = SameEnd (cond (ran_out result) (as_failed old) next) new

-- what is to be put is put, or nothing where memory was refused
abbrev pub PutsAs : {A : Type 0} → Result A CoreFault → (old next : Output) → Outgoing → Type 0
PutsAs result old next new = new ≡ only (cond (ran_out result) old next)

-- an end that has found this fault in octets: what it puts is put, and it has failed
abbrev pub stopped : (role : Role) → Config role → End → FrameFaultKind → End
stopped role config end kind =
    failed_by (events.Faults (fault_told kind)) (end_after_owed role config (owed_at_fault config end kind) end)
