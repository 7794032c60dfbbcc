-- The printed texts of values and tables.
use Rattle.std.specs.Prelude.{ℕ, zero, suc, ◌==◌, ◌&&◌, ◌||◌, nat_le, if◌then◌else◌, List, [], ◌∷◌, ◌++◌, Bool, true, false, codes}
use Rattle.std.specs.Fmt.{decimal, signed_decimal}
use Rattle.std.specs.List.{flat_map}
use Rattle.hex.specs.Hex.{encode_lower}
use Rattle.amqp_value.specs.Values.{Scalar, boolean, short_short_int, short_short_uint, errata_short_int, short_int}
use Rattle.amqp_value.specs.Values.{short_uint, long_int, long_uint, errata_long_long_int, long_long_int, float, double}
use Rattle.amqp_value.specs.Values.{decimal as scaled, timestamp, void, Datum, scalar, long_string, byte_array, array}
use Rattle.amqp_value.specs.Values.{table, Items, no_items, item, Pairs, no_pairs, pair}

-- two digits, lower case
abbrev pub octet_digits : ℕ → List ℕ
octet_digits octet = encode_lower (octet ∷ [])

-- two digits for each octet
abbrev pub hexadecimal : List ℕ → List ℕ
hexadecimal octets = flat_map octet_digits octets

-- printable ASCII but the quote and the backslash as it is, and else `\x` and two digits
abbrev pub quoted_octet : ℕ → List ℕ
quoted_octet octet =
    if nat_le 32 octet && (nat_le octet 126 && (if octet == 34 || octet == 92 then false else true)) then octet ∷ []
    else 92 ∷ 120 ∷ octet_digits octet

abbrev pub escaped : List ℕ → List ℕ
escaped octets = flat_map quoted_octet octets

abbrev pub quoted : List ℕ → List ℕ
quoted octets = 34 ∷ (escaped octets ++ 34 ∷ [])

abbrev pub truth_text : Bool → List ℕ
truth_text false = codes "t:0"
truth_text true = codes "t:1"

abbrev scalar_text : Scalar → List ℕ
scalar_text (boolean holds) = truth_text holds
scalar_text (short_short_int n) = codes "b:" ++ signed_decimal n
scalar_text (short_short_uint n) = codes "B:" ++ decimal n
scalar_text (errata_short_int n) = codes "s:" ++ signed_decimal n
scalar_text (short_int n) = codes "U:" ++ signed_decimal n
scalar_text (short_uint n) = codes "u:" ++ decimal n
scalar_text (long_int n) = codes "I:" ++ signed_decimal n
scalar_text (long_uint n) = codes "i:" ++ decimal n
scalar_text (errata_long_long_int n) = codes "l:" ++ signed_decimal n
scalar_text (long_long_int n) = codes "L:" ++ signed_decimal n
scalar_text (float octets) = codes "f:" ++ hexadecimal octets
scalar_text (double octets) = codes "d:" ++ hexadecimal octets
scalar_text (scaled scale number) = codes "D:" ++ (decimal scale ++ (codes ":" ++ decimal number))
scalar_text (timestamp n) = codes "T:" ++ decimal n
scalar_text void = codes "V"

-- a comma, but before the first
abbrev pub comma_before : ℕ → List ℕ
comma_before zero = []
comma_before (suc n) = codes ","

abbrev mutual
  pub value_text : Datum → List ℕ
  value_text (scalar s) = scalar_text s
  value_text (long_string text) = codes "S:" ++ quoted text
  value_text (byte_array octets) = codes "x:" ++ hexadecimal octets
  value_text (array items) = codes "A[" ++ (items_text_from 0 items ++ codes "]")
  value_text (table pairs) = codes "F{" ++ (pairs_text_from 0 pairs ++ codes "}")

  -- values, parted by commas; the first is the n-th
  pub items_text_from : ℕ → Items → List ℕ
  items_text_from n no_items = []
  items_text_from n (item value items) = comma_before n ++ (value_text value ++ items_text_from (suc n) items)

  -- names with values, parted by commas
  pub pairs_text_from : ℕ → Pairs → List ℕ
  pairs_text_from n no_pairs = []
  pairs_text_from n (pair name value pairs) =
      comma_before n ++ ((quoted name ++ codes "=") ++ (value_text value ++ pairs_text_from (suc n) pairs))

abbrev pub items_text : Items → List ℕ
items_text items = items_text_from 0 items

abbrev pub pairs_text : Pairs → List ℕ
pairs_text pairs = pairs_text_from 0 pairs

abbrev pub text_of_table : Pairs → List ℕ
text_of_table pairs = codes "{" ++ (pairs_text pairs ++ codes "}")
