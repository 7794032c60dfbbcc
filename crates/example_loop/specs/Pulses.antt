-- How long nothing comes or goes, in ticks.
use Rattle.std.specs.Prelude.{ℕ, Bool, if◌then◌else◌, ◌+◌, min}

-- one more tick, up to the greatest number of 32 bits, or none where something came or went
abbrev pub ticks_after : Bool → ℕ → ℕ
ticks_after is_quiet before = if is_quiet then min (before + 1) 4294967295 else 0
