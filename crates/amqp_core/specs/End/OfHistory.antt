-- What an end does with what it takes, by its history.
use Rattle.std.specs.Prelude.{◌≡◌}
use Rattle.amqp_frame.specs.declared.faults.FrameFaultKind.{FrameFaultKind}
use Rattle.amqp_model.specs.End.Channels.{End}
use Rattle.amqp_model.specs.Stream.Endpoint.{owed_at_fault}
use Rattle.amqp_model.specs.End.EndVerdict.{end_puts, end_verdict}
use Rattle.amqp_model.specs.Wire.Frame.{Frame}
use Rattle.amqp_model.specs.History.Histories.{History}
use Rattle.amqp_model.specs.End.LawfulHistories.{end_of}
use Rattle.amqp_model.specs.History.Negotiation.{Config}
use Rattle.amqp_model.specs.Wire.Notes.{Role}
use Rattle.amqp_model.specs.Laws.OctetLaws.{event_of_frame}

pub record VerdictsAreOf (role : Role) (config : Config role) (end : End) (history : History) : Type 0 where
  -- the verdict on each frame is the one that the history gives
  pub verdict : (frame : Frame) → end_verdict config end frame ≡ end_verdict config (end_of config history) frame
  -- so is the event that it tells
  pub event : (frame : Frame) → event_of_frame config end frame ≡ event_of_frame config (end_of config history) frame
  -- and so are the frames that it puts
  pub puts : (frame : Frame) → end_puts config end frame ≡ end_puts config (end_of config history) frame
  -- and the methods that it owes where octets show a fault
  pub at_fault :
      (kind : FrameFaultKind) → owed_at_fault config end kind ≡ owed_at_fault config (end_of config history) kind
