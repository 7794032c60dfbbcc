-- How much longer an output gets by what an end puts of itself.
use Rattle.std.specs.Prelude.{ℕ, ◌+◌, ◌≤◌, length}
use Rattle.amqp_model.specs.Output.Outputs.{Output, output_octets}

-- two frames of 4096 octets
abbrev MOST_PUT : ℕ
MOST_PUT = 8192

-- a piece lets the output grow by two such frames at most
abbrev pub GrowsLittle : (old new : Output) → Type 0
GrowsLittle old new = length (output_octets new) ≤ length (output_octets old) + MOST_PUT
