-- What callers see of the octets that a session has read and not fed.
use Rattle.std.specs.Prelude.{ℕ, List}

-- The octets, and how many a read takes at most.
pub record Buffered : Type 0 where
  pub octets : List ℕ
  pub room : ℕ
