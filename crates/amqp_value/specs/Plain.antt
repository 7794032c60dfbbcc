-- The one encoding of a value that is written: a truth value that holds is 1.
use Rattle.std.specs.Prelude.{ℕ, ◌^◌, ◌<◌, List, [], ◌∷◌, ◌++◌, length, Bool, true, false}
use Rattle.std.specs.Int.{w8, w16, w32, w64, cast_unsigned}
use Rattle.byteorder.specs.Endian.{big_bytes}
use Rattle.amqp_value.specs.Fields.{plain_short_string, plain_long_string}
use Rattle.amqp_value.specs.Encoding.{tag_octet}
use Rattle.amqp_value.specs.Values.{Scalar, boolean, short_short_int, short_short_uint, errata_short_int, short_int}
use Rattle.amqp_value.specs.Values.{short_uint, long_int, long_uint, errata_long_long_int, long_long_int, float, double}
use Rattle.amqp_value.specs.Values.{decimal, timestamp, void, Datum, scalar, long_string, byte_array, array, table}
use Rattle.amqp_value.specs.Values.{Items, no_items, item, Pairs, no_pairs, pair}

abbrev pub plain_truth : Bool → List ℕ
plain_truth false = 0 ∷ []
plain_truth true = 1 ∷ []

abbrev pub plain_scalar : Scalar → List ℕ
plain_scalar (boolean holds) = plain_truth holds
plain_scalar (short_short_int n) = big_bytes 1 (cast_unsigned w8 n)
plain_scalar (short_short_uint n) = big_bytes 1 n
plain_scalar (errata_short_int n) = big_bytes 2 (cast_unsigned w16 n)
plain_scalar (short_int n) = big_bytes 2 (cast_unsigned w16 n)
plain_scalar (short_uint n) = big_bytes 2 n
plain_scalar (long_int n) = big_bytes 4 (cast_unsigned w32 n)
plain_scalar (long_uint n) = big_bytes 4 n
plain_scalar (errata_long_long_int n) = big_bytes 8 (cast_unsigned w64 n)
plain_scalar (long_long_int n) = big_bytes 8 (cast_unsigned w64 n)
plain_scalar (float octets) = octets
plain_scalar (double octets) = octets
plain_scalar (decimal scale number) = big_bytes 1 scale ++ big_bytes 4 number
plain_scalar (timestamp n) = big_bytes 8 n
plain_scalar void = []

abbrev mutual
  -- the octets after the tag of a value
  pub plain_field : Datum → List ℕ
  plain_field (scalar s) = plain_scalar s
  plain_field (long_string text) = plain_long_string text
  plain_field (byte_array octets) = plain_long_string octets
  plain_field (array items) = plain_long_string (plain_items items)
  plain_field (table pairs) = plain_long_string (plain_pairs pairs)

  pub plain_items : Items → List ℕ
  plain_items no_items = []
  plain_items (item value items) = (tag_octet value ∷ plain_field value) ++ plain_items items

  pub plain_pairs : Pairs → List ℕ
  plain_pairs no_pairs = []
  plain_pairs (pair name value pairs) = plain_short_string name
      ++ ((tag_octet value ∷ plain_field value) ++ plain_pairs pairs)

abbrev pub plain_value : Datum → List ℕ
plain_value value = tag_octet value ∷ plain_field value

abbrev pub plain_table : Pairs → List ℕ
plain_table pairs = plain_field (table pairs)

abbrev mutual
  -- no count inside passes 4294967295
  pub CountsFit : Datum → Type 0
  CountsFit (scalar s) = Unit {0}
  CountsFit (long_string text) = length text < 2 ^ 32
  CountsFit (byte_array octets) = length octets < 2 ^ 32
  CountsFit (array items) = (length (plain_items items) < 2 ^ 32) × ItemsCountsFit items
  CountsFit (table pairs) = (length (plain_pairs pairs) < 2 ^ 32) × PairsCountsFit pairs

  pub ItemsCountsFit : Items → Type 0
  ItemsCountsFit no_items = Unit {0}
  ItemsCountsFit (item value items) = CountsFit value × ItemsCountsFit items

  pub PairsCountsFit : Pairs → Type 0
  PairsCountsFit no_pairs = Unit {0}
  PairsCountsFit (pair name value pairs) = CountsFit value × PairsCountsFit pairs
