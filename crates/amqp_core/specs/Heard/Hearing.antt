-- What a piece makes of what an end keeps of the other end's words. Read before: what a frame makes of it (`View`).
use Rattle.std.specs.Prelude.{◌≡◌, true, false, ℕ, List, Result, OnErr, OnOk}
use Rattle.amqp_model.specs.End.EndVerdict.{takes_frames}
use Rattle.amqp_model.specs.History.Negotiation.{Config}
use Rattle.amqp_model.specs.Laws.OctetLaws.{CompletesFrame}
use Rattle.amqp_model.specs.Stream.Endpoint.{Endpoint, Feeding, Unfinished, awaits_opening}
use Rattle.amqp_model.specs.Wire.Frame.{Frame}
use Rattle.amqp_model.specs.Wire.Notes.{Role}
use Rattle.amqp_core.specs.Faults.Answering.{ran_out}
use Rattle.amqp_core.specs.Heard.View.{Said, said_after}
use Rattle.amqp_core.specs.declared.faults.CoreFault.{CoreFault}

-- A frame that a piece makes whole is heard, and nothing else is.
pub record HearsFrame (role : Role) (config : Config role) (old : Endpoint) (piece : List ℕ) (fed : Feeding)
    (before after : Said) : Type 0 where
  -- None is whole yet.
  pub waits : fed.outcome ≡ Unfinished → after ≡ before
  -- The octets are those of the protocol header.
  pub greets : awaits_opening role old.end.phase ≡ true → after ≡ before
  -- A frame is whole and taken.
  pub takes :
      (frame : Frame) → takes_frames old.end.phase ≡ true → CompletesFrame old piece fed frame
      → after ≡ said_after config old.end frame before

-- So it is with what is answered. Out of memory, nothing is said of it.
pub record Hears {A : Type 0} (role : Role) (config : Config role) (result : Result A CoreFault) (old : Endpoint)
    (piece : List ℕ) (fed : Feeding) (before after : Said) : Type 0 where
  pub hears : OnOk result (HearsFrame role config old piece fed before after)
  -- Where a fault is found, nothing is heard.
  pub at_fault : ran_out result ≡ false → OnErr result (after ≡ before)
