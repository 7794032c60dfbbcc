-- What a call on a stream answers, and when its marks change.
use Rattle.std.specs.Prelude.{◌≡◌, ◌≢◌, ℕ, ◌<◌, List, length, Result, Ok, Err}
use Rattle.amqp_io.specs.declared.faults.StreamFailed.{StreamFailed}

-- the mark changes if the event occurs, and only then
abbrev pub Marks : Type 0 → ℕ → ℕ → Type 0
Marks event old new = (event → new ≢ old) × (¬ event → new ≡ old)

-- a read met the end of the input: it gave nothing, though there was room
abbrev pub MeetsEnd : Result ℕ StreamFailed → List ℕ → Type 0
MeetsEnd (Ok n) buffer = (n ≡ 0) × (0 < length buffer)
MeetsEnd (Err failed) buffer = ⊥

-- a write failed: it answered so, or it took nothing, though there was something to take
abbrev pub WriteFails : Result ℕ StreamFailed → List ℕ → Type 0
WriteFails (Ok n) octets = (n ≡ 0) × (0 < length octets)
WriteFails (Err failed) octets = Unit {0}
