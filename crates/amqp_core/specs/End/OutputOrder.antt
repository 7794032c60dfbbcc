-- In which order the frames stand in an output and leave, and what a write makes of the histories of an end.
use Rattle.std.specs.Prelude.{Bool, ℕ, List, ◌++◌, take}
use Rattle.amqp_model.specs.Output.ArrangementRules.{FollowsRules}
use Rattle.amqp_model.specs.Output.Departures.{IsOutputOf, LeavesLast, PutAs}
use Rattle.amqp_model.specs.Stream.Endpoint.{Endpoint}
use Rattle.amqp_model.specs.History.Histories.{History}
use Rattle.amqp_model.specs.End.LawfulHistories.{Lawful}
use Rattle.amqp_model.specs.History.Negotiation.{Config}
use Rattle.amqp_model.specs.Wire.Notes.{Role}
use Rattle.amqp_model.specs.Laws.OctetLaws.{EndpointStandsFor, HasFailed}
use Rattle.amqp_model.specs.Stream.Octets.{frames_put}
use Rattle.amqp_model.specs.Output.Outputs.{Output, output_octets}
use Rattle.amqp_core.specs.End.Following.{KeepsHistory}

pub record IsInOrder (opening : List ℕ) (history : History) (written : List ℕ) (output : Output) : Type 0 where
  -- The frames not begun stand by the rules: plain frames of channel 0 first; then those of the channels above 0, each
  -- next channel as counting up from the one last begun meets it; connection.close and close-ok last.
  pub rules : FollowsRules output.last output.row
  -- What was written and the output are the frames put, those of each channel in order, channel 0 too, and none of a
  -- channel above 0 after a close.
  pub put : PutAs opening (written ++ output_octets output) (frames_put history)
  -- after a close nothing but closes was put
  pub closes : LeavesLast (frames_put history)

-- so it is of every history that the output is of, whether the end has failed or not
abbrev pub OutputInOrder : (role : Role) → Config role → Output → Type 0
OutputInOrder role config output =
    (failed : Bool) (history : History) (opening written : List ℕ)
    → Lawful role config failed history → IsOutputOf opening (frames_put history) written output
    → ∥ IsInOrder opening history written output ∥₁

-- so many octets of the output were written: the end stands for the same histories, with these octets written
pub record WroteGoesOn (role : Role) (config : Config role) (octets : ℕ) (old new : Endpoint) : Type 0 where
  pub stands :
      (history : History) (fed written : List ℕ) → EndpointStandsFor role config old history fed written
      → EndpointStandsFor role config new history fed (written ++ take octets (output_octets old.output))
  -- an end that has failed still writes what it has put
  pub failed :
      (limit : ℕ) (opening : List ℕ) (history : History) (fed written : List ℕ)
      → HasFailed role config limit opening history fed written old
      → HasFailed role config limit opening history fed (written ++ take octets (output_octets old.output)) new
  -- and so does one that ran out of memory
  pub ran_out :
      (history : History) (written : List ℕ) → KeepsHistory role config old history written
      → KeepsHistory role config new history (written ++ take octets (output_octets old.output))
