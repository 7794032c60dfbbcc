-- What the octets of a piece make of a history.
use Rattle.std.specs.Prelude.{◌≡◌, true, ℕ, List, [], map, Some}
use Rattle.amqp_frame.specs.declared.faults.FrameFaultKind.{FrameFaultKind}
use Rattle.amqp_model.specs.End.Closes.{frame_of}
use Rattle.amqp_model.specs.Stream.Endpoint.{Endpoint, Feeding, Unfinished, Finished, Found, awaits_opening, fault_told}
use Rattle.amqp_model.specs.Stream.Endpoint.{owed_at_start, owed_at_fault, refusal_in}
use Rattle.amqp_model.specs.End.EndVerdict.{end_verdict, goes_on, takes_frames}
use Rattle.amqp_model.specs.End.Events.{Quiet, Fault, Faults, WrongProtocolHeader}
use Rattle.amqp_model.specs.Wire.Frame.{Frame}
use Rattle.amqp_model.specs.History.Histories.{History}
use Rattle.amqp_model.specs.End.LawfulHistories.{then_put, then_taken}
use Rattle.amqp_model.specs.History.Negotiation.{Config}
use Rattle.amqp_model.specs.Wire.Notes.{Role}
use Rattle.amqp_model.specs.Laws.OctetLaws.{CompletesFrame, ShowsFault, event_of_frame, nothing_taken}

-- What a piece makes of a history, by what came of it: nothing; a server's start; a frame taken, and what its verdict
-- puts; and where octets show a fault, the close that is put.
pub data Grows (role : Role) (config : Config role) (old : Endpoint) (piece : List ℕ) (fed : Feeding)
    (history : History) : (after : History) → Type 0 where
  waits : fed.outcome ≡ Unfinished → Grows role config old piece fed history history
  greets : awaits_opening role old.end.phase ≡ true → history ≡ [] → fed.outcome ≡ Finished (Some Quiet)
      → Grows role config old piece fed history (then_put (map frame_of (owed_at_start role config)) history)
  takes : (frame : Frame) → takes_frames old.end.phase ≡ true → CompletesFrame old piece fed frame
      → goes_on (end_verdict config old.end frame) ≡ true
      → fed.outcome ≡ Finished (event_of_frame config old.end frame)
      → Grows role config old piece fed history (then_taken config old.end frame history)
  faults : (frame : Frame) (fault : Fault) → takes_frames old.end.phase ≡ true
      → CompletesFrame old piece fed frame
      → end_verdict config old.end frame ≡ Faults fault → fed.outcome ≡ Found fault
      → Grows role config old piece fed history (then_taken config old.end frame history)
  tells :
      (kind : FrameFaultKind) → takes_frames old.end.phase ≡ true → ShowsFault old piece fed kind
      → fed.outcome ≡ Found (fault_told kind)
      → Grows role config old piece fed history (then_put (map frame_of (owed_at_fault config old.end kind)) history)
  differs :
      awaits_opening role old.end.phase ≡ true → fed.outcome ≡ Found WrongProtocolHeader
      → Grows role config old piece fed history history
  refuses :
      (fault : Fault) → refusal_in old.end.phase ≡ Some fault → fed ≡ nothing_taken old fault
      → Grows role config old piece fed history history
