-- What a value holds, whichever of the tags for it it has: a truth value, a whole number, octets, values, pairs.
use Rattle.std.specs.Prelude.{ℕ, List, Bool, ℤ, pos, negsuc, Option, Some, None}
use Rattle.amqp_value.specs.Pairs.{value_named}
use Rattle.amqp_value.specs.Values.{Scalar, boolean, short_short_int, short_short_uint, errata_short_int, short_int}
use Rattle.amqp_value.specs.Values.{short_uint, long_int, long_uint, errata_long_long_int, long_long_int, Datum, scalar}
use Rattle.amqp_value.specs.Values.{long_string, byte_array, array, table, Items, Pairs}

abbrev truth_of : Scalar → Option Bool
truth_of (boolean holds) = Some holds
truth_of other = None

-- nine tags are whole numbers; a timestamp is none
abbrev whole_of : Scalar → Option ℤ
whole_of (short_short_int n) = Some n
whole_of (short_short_uint n) = Some (pos n)
whole_of (errata_short_int n) = Some n
whole_of (short_int n) = Some n
whole_of (short_uint n) = Some (pos n)
whole_of (long_int n) = Some n
whole_of (long_uint n) = Some (pos n)
whole_of (errata_long_long_int n) = Some n
whole_of (long_long_int n) = Some n
whole_of other = None

abbrev pub truth_in : Datum → Option Bool
truth_in (scalar s) = truth_of s
truth_in other = None

abbrev pub whole_in : Datum → Option ℤ
whole_in (scalar s) = whole_of s
whole_in other = None

-- a whole number that isn't negative
abbrev pub natural_of : Option ℤ → Option ℕ
natural_of None = None
natural_of (Some (pos n)) = Some n
natural_of (Some (negsuc n)) = None

-- text and byte arrays
abbrev pub octets_in : Datum → Option (List ℕ)
octets_in (long_string octets) = Some octets
octets_in (byte_array octets) = Some octets
octets_in other = None

abbrev pub items_in : Datum → Option Items
items_in (array items) = Some items
items_in other = None

abbrev pub pairs_in : Datum → Option Pairs
pairs_in (table pairs) = Some pairs
pairs_in other = None

-- the value under a name, in a table
abbrev pub value_in : List ℕ → Datum → Option Datum
value_in name (table pairs) = value_named name pairs
value_in name other = None
