-- What the code counts of the lives of channels, in the words of their definition.
use Rattle.std.specs.Prelude.{nat_eq, ℕ, Option, Some, None}
use Rattle.std.specs.HashMap.{get}
use Rattle.amqp_core.specs.Traced.LifeCounts.{LifeCount, no_lives}
use Rattle.amqp_core.specs.declared.lives.Count.{Count}
use Rattle.amqp_core.specs.declared.lives.Lives.{Lives}

abbrev pub count_view : Count → LifeCount
count_view count = record { lives = count.lives; waits = count.waits }

abbrev count_there : Option Count → LifeCount
count_there None = no_lives
count_there (Some count) = count_view count

abbrev pub lives_view : Lives → (channel : ℕ) → LifeCount
lives_view lives channel = count_there (get nat_eq lives.counts channel)
