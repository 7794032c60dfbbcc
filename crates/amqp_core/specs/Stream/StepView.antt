-- What a step of a lending end tells, in the words of the model, once the frame is known that lies in the end's buffer.
use Rattle.std.specs.Prelude.{ℕ, Option, Some, None, Result, Ok, Err}
use Rattle.amqp_frame.specs.Frame as frames
use Rattle.amqp_model.specs.End.Events.{Event, Quiet}
use Rattle.amqp_model.specs.Lent.Alike.{LentEvent, Other}
use Rattle.amqp_model.specs.Wire.Readings.{Reading, reading}
use Rattle.amqp_channel.specs.declared.verdict.Told.{Told}
use Rattle.amqp_core.specs.Stream.EventRefView.{event_ref_view, report_lent}
use Rattle.amqp_core.specs.Stream.Lending.{LentSeen}
use Rattle.amqp_core.specs.declared.faults.CoreFault.{CoreFault}
use Rattle.amqp_core.specs.declared.step.Came.{Came}
use Rattle.amqp_core.specs.declared.step.Came.TheVariants as came
use Rattle.amqp_core.specs.declared.step.Report.{Report}
use Rattle.amqp_core.specs.declared.step.Report.TheVariants.{OnChannel}
use Rattle.amqp_core.specs.declared.step.Step.{Step}

-- what the frame in the buffer says
abbrev pub read_in : Option frames.Frame → Option Reading
read_in None = None
read_in (Some frame) = Some (reading frame)

-- the event of a frame that says this, if it is there
abbrev pub told_of : (number : ℕ) → Option Reading → Report → Option LentEvent
told_of number None report = None
told_of number (Some said) report = report_lent number said report

-- what came: the event of a frame in the piece, or what is told of the frame in the buffer
abbrev lent_by : Came → (given : Option frames.Frame) → Option LentEvent
lent_by (came.Told event) given = Some (event_ref_view event)
lent_by (came.Buffered number report) given = told_of number (read_in given) report

abbrev pub came_lent : Option Came → (given : Option frames.Frame) → Option LentEvent
came_lent None given = None
came_lent (Some came) given = lent_by came given

-- what a step tells, with this frame in the buffer
abbrev step_lent : Step → (given : Option frames.Frame) → LentSeen
step_lent step given = record { octets = step.octets; event = came_lent step.came given }

-- what is answered to a frame that says this: its event, where no fault is found
abbrev pub seen_by : Result Report CoreFault → (octets number : ℕ) → Option Reading → Result LentSeen CoreFault
seen_by (Ok report) octets number said = Ok (record { octets = octets; event = told_of number said report })
seen_by (Err fault) octets number said = Err fault

-- of the protocol header nothing is told but that it came
abbrev pub quiet_there : Option Event → Option LentEvent
quiet_there None = None
quiet_there (Some event) = Some (Other Quiet)

-- what is answered to octets of it
abbrev pub heard_seen : {A : Type 0} → Result A CoreFault → (octets : ℕ) → Option Event → Result LentSeen CoreFault
heard_seen (Ok done) octets event = Ok (record { octets = octets; event = quiet_there event })
heard_seen (Err fault) octets event = Err fault

abbrev pub step_seen : Result Step CoreFault → (given : Option frames.Frame) → Result LentSeen CoreFault
step_seen (Ok step) given = Ok (step_lent step given)
step_seen (Err fault) given = Err fault

-- the answer to a frame of a channel of which this is told
abbrev pub reported : Told → Result Report CoreFault
reported told = Ok (OnChannel told)

-- the answer to a frame that passes
abbrev pub passed : Step → Result Step CoreFault
passed step = Ok step
