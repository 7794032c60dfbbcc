-- What one read gives.
use Rattle.std.specs.Prelude.{◌≡◌, ℕ, ◌<◌, ◌≤◌, List, length, take, Option}
use Rattle.std.specs.Io.KnownBytes.{prepend_known}
use Rattle.amqp_io.specs.declared.reading.Arrival.{Arrival}
use Rattle.amqp_io.specs.declared.reading.Arrival.TheVariants.{Octets, End, Failure}

-- The octets given stand at the start of the buffer, and are gone from the start of what the stream has to give.
abbrev pub Gives : Arrival → Option (List ℕ) → Option (List ℕ) → List ℕ → Type 0
Gives (Octets n) old new buffer = (0 < n) × (n ≤ length buffer) × (old ≡ prepend_known (take n buffer) new)
Gives End old new buffer = new ≡ old
Gives Failure old new buffer = new ≡ old
