-- What comes of a piece that an end takes whose events lend.
--
-- Such an end keeps of a content under way only how far it has come. So it leaves what is alike to what the definitions
-- leave, and each frame of a content is an event of its own.
use Rattle.std.specs.Prelude.{◌≡◌, ◌≢◌, cond, true, ℕ, List, Option, Some, None, Result, Ok, Err, IfOk}
use Rattle.amqp_model.specs.End.Channels.{End, Failed}
use Rattle.amqp_model.specs.End.EndVerdict.{takes_frames}
use Rattle.amqp_model.specs.End.Events.{Quiet}
use Rattle.amqp_model.specs.End.Machine.{as_failed}
use Rattle.amqp_model.specs.History.Negotiation.{Config}
use Rattle.amqp_model.specs.Laws.OctetLaws.{CompletesFrame, event_of_frame}
use Rattle.amqp_model.specs.Lent.Alike.{AlikeChannels, LentEvent, Other, lent, maybe_telling}
use Rattle.amqp_model.specs.Stream.Endpoint.{Endpoint, Feeding, Outcome, Unfinished, Finished, Found, awaits_opening}
use Rattle.amqp_model.specs.Wire.Frame.{Frame}
use Rattle.amqp_model.specs.Wire.Notes.{Role}
use Rattle.amqp_model.specs.Wire.Readings.{reading}
use Rattle.amqp_core.specs.Faults.Answering.{Reports, ran_out}
use Rattle.amqp_core.specs.End.Feeding.{ran_out_of}
use Rattle.amqp_core.specs.declared.faults.CoreFault.{CoreFault}

-- What is left.

-- Alike to all who look: of an end that has failed only its phase, what was agreed and channel 0 are looked at.
pub record AlikeLeft (one other : End) : Type 0 where
  pub phase : one.phase ≡ other.phase
  pub agreed : one.agreed ≡ other.agreed
  pub no_channel : AlikeChannels (one.channels 0) (other.channels 0)
  pub channels : one.phase ≢ Failed → (number : ℕ) → AlikeChannels (one.channels number) (other.channels number)

-- alike to what the definitions leave, or to the end as it was, which has failed out of memory
abbrev pub EndsAlike : {A : Type 0} → Result A CoreFault → (old next new : End) → Type 0
EndsAlike result old next new = AlikeLeft (cond (ran_out result) (as_failed old) next) new

-- with the same unfinished octets and the same output
pub record AlikeEndpoint (one other : Endpoint) : Type 0 where
  pub end : AlikeLeft one.end other.end
  pub unfinished : one.unfinished ≡ other.unfinished
  pub output : one.output ≡ other.output

-- What is told.

-- how many octets were taken, and the event that they lend
pub record LentSeen : Type 0 where
  pub octets : ℕ
  pub event : Option LentEvent

-- The event of a piece, of which this comes by the definitions.
pub record LendsOf (role : Role) (config : Config role) (old : Endpoint) (piece : List ℕ) (fed : Feeding)
    (event : Option LentEvent) : Type 0 where
  -- nothing is told where nothing is whole yet
  pub waits : fed.outcome ≡ Unfinished → event ≡ None
  -- a server tells nothing of the protocol header but that it came
  pub greets : awaits_opening role old.end.phase ≡ true → fed.outcome ≡ Finished (Some Quiet) → event
      ≡ Some (Other Quiet)
  -- of a frame is told what is lent of it, where this is told by an end that gathers
  pub takes :
      (frame : Frame) → takes_frames old.end.phase ≡ true → CompletesFrame old piece fed frame
      → event ≡ lent frame.channel (reading frame) (maybe_telling (event_of_frame config old.end frame))

-- no fault was found
abbrev IsFaultless : Outcome → Type 0
IsFaultless (Found fault) = ⊥
IsFaultless outcome = Unit {0}

abbrev pub AnswersLent : Result LentSeen CoreFault → Outcome → Type 0
AnswersLent (Ok seen) outcome = IsFaultless outcome
AnswersLent (Err fault) outcome = Reports fault outcome

-- The answer, the octets taken and what is left are those of the definitions. Out of memory, nothing was done.
pub record IsLent (role : Role) (config : Config role) (result : Result LentSeen CoreFault) (old : Endpoint)
    (piece : List ℕ) (fed : Feeding) (new : Endpoint) : Type 0 where
  pub answer : AnswersLent result fed.outcome
  pub taken : IfOk result (λ seen. seen.octets ≡ fed.taken)
  pub event : IfOk result (λ seen. LendsOf role config old piece fed seen.event)
  pub left : AlikeEndpoint (cond (ran_out result) (ran_out_of old) fed.endpoint) new
