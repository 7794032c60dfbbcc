-- How many octets values are written in: a bit has an octet of its own where the one before leaves no bit.
use Rattle.std.specs.Prelude.{ℕ, zero, suc, ◌+◌, List, [], ◌∷◌, length}
use Rattle.amqp_method.specs.Arguments.{Argument, bit, octet, short, long, long_long, short_string, long_string, table, kind_of}
use Rattle.amqp_method.specs.FirstFault.{bits_left_by}
use Rattle.amqp_method.specs.Plain.{plain_argument}

-- how many octets a bit adds, where the octet begun has so many bits left
abbrev pub octets_of_bit : ℕ → ℕ
octets_of_bit zero = 1
octets_of_bit (suc left) = 0

-- and any value
abbrev pub octets_of : Argument → ℕ → ℕ
octets_of (bit holds) left = octets_of_bit left
octets_of (octet n) left = length (plain_argument (octet n))
octets_of (short n) left = length (plain_argument (short n))
octets_of (long n) left = length (plain_argument (long n))
octets_of (long_long n) left = length (plain_argument (long_long n))
octets_of (short_string text) left = length (plain_argument (short_string text))
octets_of (long_string text) left = length (plain_argument (long_string text))
octets_of (table pairs) left = length (plain_argument (table pairs))

-- and values
abbrev pub values_length : List Argument → ℕ → ℕ
values_length [] left = 0
values_length (value ∷ values) left = octets_of value left + values_length values (bits_left_by (kind_of value) left)
