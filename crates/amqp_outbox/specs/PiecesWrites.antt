-- How an output goes on as it is written frame by frame.
use Rattle.std.specs.Prelude.{◌≡◌, ℕ, ◌<◌, cond, ◌==◌, []}
use Rattle.amqp_model.specs.Output.Outputs.{Output, row_after_writing, after_writing}
use Rattle.amqp_outbox.specs.OutboxView.{Outgoing}

-- what is left of an output, once so many octets of frames that are not begun are written
abbrev pub left_of : (octets : ℕ) → Output → Output
left_of octets output = cond (octets == 0) output (row_after_writing octets output.begun_on output.last output.row)

-- so many octets were to be written of frames not begun, and after one frame so many are
pub record BeginsNext (octets result : ℕ) (old new : Outgoing) : Type 0 where
  pub fewer : result < octets
  pub staged : new.staged ≡ old.staged
  pub left : left_of result new.output ≡ left_of octets old.output
  pub ended : 0 < result → new.output.ahead ≡ []

-- so many octets are to be written, and so many of them of frames not begun
pub record GoesOn (octets result : ℕ) (old new : Outgoing) : Type 0 where
  pub staged : new.staged ≡ old.staged
  pub left : left_of result new.output ≡ after_writing octets old.output
  pub ended : 0 < result → new.output.ahead ≡ []
