-- Where a pair stands in memory.
use Rattle.std.specs.Prelude.{◌≡◌, ℕ, ◌<◌, List, length, take, get_or, true, None}
use Rattle.std.specs.Str.{bytes_eq}
use Rattle.amqp_value.specs.Pairs.{value_named}
use Rattle.amqp_value.specs.View.{pairs_view}
use Rattle.amqp_value.specs.declared.values.Value.{Value}

-- The first pair with the name stands at the place, and others are before it.
pub record StandsAt (name : List ℕ) (pairs : List (List ℕ × Value)) (place : ℕ) : Type 0 where
  pub within : place < length pairs
  pub none_before : value_named name (pairs_view (take place pairs)) ≡ None
  pub is_here : (other : List ℕ × Value) → bytes_eq (get_or pairs place other).0 name ≡ true
