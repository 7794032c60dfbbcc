-- Lengths as the code counts them.
use Rattle.std.specs.Prelude.{ℕ, ◌-◌, ◌^◌, min}

-- a length, or the greatest number of 64 bits for every length above that
abbrev pub capped : ℕ → ℕ
capped length = min length (2 ^ 64 - 1)
