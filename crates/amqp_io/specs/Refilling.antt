-- What one read leaves to feed.
use Rattle.std.specs.Prelude.{◌≡◌, ℕ, ◌<◌, ◌≤◌, List, [], length, Option}
use Rattle.std.specs.Io.KnownBytes.{prepend_known}
use Rattle.amqp_io.specs.declared.reading.Arrival.{Arrival}
use Rattle.amqp_io.specs.declared.reading.Arrival.TheVariants.{Octets, End, Failure}

-- These octets were read, at least one and at most as many as there is room for: they are gone from the start of what
-- the stream has to give.
pub record AreRead (room : ℕ) (octets : List ℕ) (before after : Option (List ℕ)) : Type 0 where
  pub some : 0 < length octets
  pub most : length octets ≤ room
  pub given : before ≡ prepend_known octets after

abbrev pub Refills : (room : ℕ) → Arrival → List ℕ → (before after : Option (List ℕ)) → Type 0
Refills room (Octets n) octets before after = (n ≡ length octets) × AreRead room octets before after
Refills room End octets before after = (octets ≡ []) × (after ≡ before)
Refills room Failure octets before after = (octets ≡ []) × (after ≡ before)
