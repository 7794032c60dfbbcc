-- What a piece, and a write, make of each history that an end stands for.
use Rattle.std.specs.Prelude.{Bool, true, false, ℕ, List}
use Rattle.amqp_model.specs.Output.Departures.{IsOutputOf}
use Rattle.amqp_model.specs.Stream.Endpoint.{Endpoint, Feeding}
use Rattle.amqp_model.specs.History.Histories.{History}
use Rattle.amqp_model.specs.End.LawfulHistories.{Lawful}
use Rattle.amqp_model.specs.End.Machine.{StandsFor}
use Rattle.amqp_model.specs.History.Negotiation.{Config}
use Rattle.amqp_model.specs.Wire.Notes.{Role}
use Rattle.amqp_model.specs.Laws.OctetLaws.{Follows}
use Rattle.amqp_model.specs.Stream.Octets.{frames_put, opening_written}

-- An end that ran out of memory has failed with the history that it had, and what it has to write is what was put and
-- not written.
pub record KeepsHistory (role : Role) (config : Config role) (endpoint : Endpoint) (history : History)
    (written : List ℕ) : Type 0 where
  pub lawful : Lawful role config true history
  pub stands : StandsFor role config true endpoint.end history
  pub out : IsOutputOf (opening_written role) (frames_put history) written endpoint.output

-- after a piece: the history that follows, by what came of the piece, or, out of memory, the one that was
abbrev pub GoesOn : (role : Role) → Config role → (out_of_memory : Bool) → (old : Endpoint) → History
    → (fed written piece : List ℕ) → Feeding → (new : Endpoint) → Type 0
GoesOn role config true old history fed written piece feeding new = KeepsHistory role config new history written
GoesOn role config false old history fed written piece feeding new =
    Follows role config old history fed written piece
    (record { endpoint = new; taken = feeding.taken; outcome = feeding.outcome })
