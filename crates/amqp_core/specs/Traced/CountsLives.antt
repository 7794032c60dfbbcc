-- The lives that the code counts are those of its notes.
use Rattle.std.specs.Prelude.{◌≡◌, ℕ, List, map}
use Rattle.amqp_channel.specs.Roles.{role_of}
use Rattle.amqp_channel.specs.declared.side.Side.{Side}
use Rattle.amqp_core.specs.Traced.CountView.{lives_view}
use Rattle.amqp_core.specs.Traced.LifeCounts.{counted_lives}
use Rattle.amqp_core.specs.Traced.Notes.{note_view}
use Rattle.amqp_core.specs.declared.lives.Lives.{Lives}
use Rattle.amqp_core.specs.declared.notes.Note.{Note}

pub record CountsLives (side : Side) (notes : List Note) (kept : Lives) : Type 0 where
  pub lives :
      (channel : ℕ)
      → (lives_view kept channel).lives ≡ (counted_lives (role_of side) channel (map note_view notes)).lives
  pub waits :
      (channel : ℕ)
      → (lives_view kept channel).waits ≡ (counted_lives (role_of side) channel (map note_view notes)).waits
