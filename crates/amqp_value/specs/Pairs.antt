-- The pairs of a table: how many, and the value under a name.
use Rattle.std.specs.Prelude.{ℕ, suc, List, Bool, true, false, cond, Option, Some, None}
use Rattle.std.specs.Str.{bytes_eq}
use Rattle.amqp_value.specs.Values.{Datum, scalar, long_string, byte_array, array, table, Pairs, no_pairs, pair}

abbrev pub pair_count : Pairs → ℕ
pair_count no_pairs = 0
pair_count (pair name value pairs) = suc (pair_count pairs)

-- the value of the first pair with the name: names may be repeated
abbrev pub value_named : List ℕ → Pairs → Option Datum
value_named name no_pairs = None
value_named name (pair first value pairs) = cond (bytes_eq first name) (Some value) (value_named name pairs)

abbrev pub is_table : Datum → Bool
is_table (scalar s) = false
is_table (long_string octets) = false
is_table (byte_array octets) = false
is_table (array items) = false
is_table (table pairs) = true

-- a table in which the value stands under the name: in place of that of the first pair with the name, or else in a pair
-- after the last
abbrev pub with_value : Pairs → List ℕ → Datum → Pairs
with_value no_pairs name value = pair name value no_pairs
with_value (pair first held pairs) name value = cond (bytes_eq first name) (pair first value pairs)
    (pair first held (with_value pairs name value))

-- a table without the first pair with the name
abbrev pub without : List ℕ → Pairs → Pairs
without name no_pairs = no_pairs
without name (pair first value pairs) = cond (bytes_eq first name) pairs (pair first value (without name pairs))
