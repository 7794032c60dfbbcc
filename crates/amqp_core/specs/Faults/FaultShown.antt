-- Why an end has failed: what its history and the octets fed end with.
use Rattle.std.specs.Prelude.{◌≡◌, false, ℕ, List, [], ◌++◌, map}
use Rattle.amqp_frame.specs.Frame.{octets}
use Rattle.amqp_frame.specs.declared.faults.FrameFaultKind.{FrameFaultKind}
use Rattle.amqp_model.specs.End.Closes.{frame_of}
use Rattle.amqp_model.specs.Stream.Endpoint.{owed_at_fault}
use Rattle.amqp_model.specs.End.EndVerdict.{end_verdict}
use Rattle.amqp_model.specs.End.Events.{Fault, Faults}
use Rattle.amqp_model.specs.Wire.Frame.{Frame}
use Rattle.amqp_model.specs.History.Histories.{History}
use Rattle.amqp_model.specs.End.LawfulHistories.{Lawful, end_of, then_put, then_taken}
use Rattle.amqp_model.specs.History.Negotiation.{Config}
use Rattle.amqp_model.specs.Wire.Notes.{Role}
use Rattle.amqp_model.specs.Laws.OctetLaws.{TellsLast}

-- The history that was lawful before the fault, and what the fault made of it. By the history before, the end puts what
-- the verdict owes, and nothing else follows.
pub data EndsInFault (role : Role) (config : Config role) (limit : ℕ) (history : History) (fed : List ℕ) : Type 0 where
  -- the frame that was fed last is the faulty one; it is taken, and what its verdict owes is put
  in_frame : (before : History) (frame : Frame) (fault : Fault) (earlier : List ℕ) → Lawful role config false before
      → end_verdict config (end_of config before) frame ≡ Faults fault
      → history ≡ then_taken config (end_of config before) frame before
      → fed ≡ earlier ++ octets frame → EndsInFault role config limit history fed
  -- octets that are no whole frame show the fault at the last of them; none is taken, and what the fault owes is put
  in_octets : (before : History) (kind : FrameFaultKind) (earlier rest : List ℕ) → Lawful role config false before
      → TellsLast limit rest kind
      → history ≡ then_put (map frame_of (owed_at_fault config (end_of config before) kind)) before
      → fed ≡ earlier ++ rest → EndsInFault role config limit history fed
  -- another protocol header came: nothing was taken or put before, and nothing is
  in_opening : history ≡ [] → EndsInFault role config limit history fed
