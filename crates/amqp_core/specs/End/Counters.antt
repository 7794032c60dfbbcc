-- What an end counts since it began, so that an application can tell whether anything came or went between two of its
-- looks: the frames that it took, the octets of its output that were written, and the octets that it took, with what
-- was wrong with them. AMQP 0-9-1 specification, section 4.2.7. That it counts, and up to which number, is this
-- profile's.
use Rattle.std.specs.Prelude.{◌≡◌, true, ℕ, List, Option, Some, None, Result, Ok, Err}
use Rattle.amqp_frame.specs.declared.faults.FrameFaultKind.{FrameFaultKind}
use Rattle.amqp_model.specs.End.EndVerdict.{takes_frames}
use Rattle.amqp_model.specs.End.Events.{Quiet, WrongProtocolHeader}
use Rattle.amqp_model.specs.History.Negotiation.{Config}
use Rattle.amqp_model.specs.Laws.OctetLaws.{CompletesFrame, ShowsFault}
use Rattle.amqp_model.specs.Stream.Endpoint.{Endpoint, Feeding, Finished, Found, Unfinished, awaits_opening}
use Rattle.amqp_model.specs.Stream.Traces.{Noted}
use Rattle.amqp_model.specs.Wire.Frame.{Frame}
use Rattle.amqp_model.specs.Wire.Notes.{Role}
use Rattle.amqp_core.specs.Faults.Blamed.{Tally, counted, no_octets}
use Rattle.amqp_core.specs.declared.faults.CoreFault.{CoreFault}
use Rattle.amqp_core.specs.declared.step.Came.{Came}
use Rattle.amqp_core.specs.declared.step.Step.{Step}

pub record Counters : Type 0 where
  pub frames : ℕ
  pub octets : ℕ
  pub tally : Tally

-- a new end has counted nothing
abbrev pub nothing_counted : Counters
nothing_counted = record { frames = 0; octets = 0; tally = no_octets }

-- one more where a frame was taken
abbrev pub counted_with : Option Noted → (before : ℕ) → ℕ
counted_with (Some note) before = counted before 1
counted_with None before = before

-- one more where a frame came of a step of a lending end
abbrev counted_came : Option Came → (before : ℕ) → ℕ
counted_came (Some came) before = counted before 1
counted_came None before = before

abbrev pub counted_in : Result Step CoreFault → (before : ℕ) → ℕ
counted_in (Ok step) before = counted_came step.came before
counted_in (Err fault) before = before

-- Frames alone are counted, each that a piece makes whole, whether the end goes on with it or finds fault.
pub record CountsFrame (role : Role) (config : Config role) (old : Endpoint) (piece : List ℕ) (fed : Feeding)
    (before after : Counters) : Type 0 where
  -- A frame is whole and taken.
  pub whole :
      (frame : Frame) → takes_frames old.end.phase ≡ true → CompletesFrame old piece fed frame
      → after.frames ≡ counted before.frames 1
  -- None is whole yet.
  pub waits : fed.outcome ≡ Unfinished → after.frames ≡ before.frames
  -- The octets are those of the protocol header, or an octet differs from it.
  pub greets :
      awaits_opening role old.end.phase ≡ true → fed.outcome ≡ Finished (Some Quiet) → after.frames ≡ before.frames
  pub differs :
      awaits_opening role old.end.phase ≡ true → fed.outcome ≡ Found WrongProtocolHeader → after.frames ≡ before.frames
  -- The octets that are no whole frame show a fault.
  pub tells :
      (kind : FrameFaultKind) → takes_frames old.end.phase ≡ true → ShowsFault old piece fed kind
      → after.frames ≡ before.frames

-- so many octets of the output were written
abbrev pub counts_octets : (octets : ℕ) → Counters → Counters
counts_octets octets before = record before { octets = counted before.octets octets }
