-- The numbers that needn't be looked at for the lowest that is free.
use Rattle.std.specs.Prelude.{◌≡◌, ◌<◌, Bool, false, ℕ, suc, Box, Option, Some, None}
use Rattle.std.specs.BTreeSet.{BTreeSet, contains}
use Rattle.std.specs.Global.{Global}
use Rattle.std.specs.Ordering.{nat_cmp}
use Rattle.amqp_model.specs.End.Asks.{is_free}
use Rattle.amqp_channel.specs.Channels.Used.{Used, used_view}
use Rattle.amqp_channel.specs.declared.free_numbers.FreeNumbers.{FreeNumbers}

-- the number is among those freed
abbrev pub is_freed : Option (Box (BTreeSet ℕ) Global) → ℕ → Bool
is_freed None number = false
is_freed (Some freed) number = contains nat_cmp freed.value number

-- the number was passed as in use
pub record IsPassed (numbers : FreeNumbers) (number : ℕ) : Type 0 where
  -- it is below those that are still to be looked at
  pub below : number < numbers.low
  -- and was not freed since
  pub kept : is_freed numbers.freed number ≡ false

-- each number that was passed is in use
abbrev pub PassedAreTaken : Used → FreeNumbers → Type 0
PassedAreTaken used numbers = (j : ℕ) → IsPassed numbers (suc j) → is_free (used_view used (suc j)) ≡ false
