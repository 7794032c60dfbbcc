-- What callers see of the two sides of a connection: their ends, each with its history, and whether they were dropped.
use Rattle.std.specs.Prelude.{Bool}
use Rattle.amqp_model.specs.History.Negotiation.{Config}
use Rattle.amqp_model.specs.Wire.Notes.{Role}
use Rattle.amqp_core.specs.Traced.Tracing.{Kept}

-- one side: what its end is set up with, the end with its history, and whether it was dropped
pub record Seated : Type 0 where
  pub set_up : (role : Role) × Config role
  pub kept : Kept
  pub dropped : Bool

-- a connection
pub record Joint : Type 0 where
  pub client : Seated
  pub server : Seated
