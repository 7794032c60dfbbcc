-- The channels in use, by number.
use Rattle.std.proofs.Common.{◌≡◌, ◌<◌, nat_eq, ℕ, zero, suc, refl, arith}
use Rattle.std.specs.HashMap.{get}
use Rattle.amqp_channel.specs.Channels.Used.{Used, gathered_there, kept_at, used_gathered, used_view}

pub at_used : (used : Used) (number : ℕ) → 0 < number → used_view used number ≡ kept_at (get nat_eq used number)
at_used used zero h = absurd (omega arith)
at_used used (suc n) h = refl

pub at_gathered : (used : Used) (number : ℕ) → 0 < number → used_gathered used number ≡ gathered_there (get nat_eq used number)
at_gathered used zero h = absurd (omega arith)
at_gathered used (suc n) h = refl
