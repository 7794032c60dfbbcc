-- Every encoding of a header has as many octets as the plain one.
use Rattle.std.proofs.Common.{◌≡◌, Bool, true, false, ℕ, suc, List, [], ◌∷◌, ◌++◌, length}
use Rattle.std.proofs.Common.{Option, Some, None, ap, ◌∙◌, arith, length-append}
use Rattle.byteorder.specs.Endian.{big_bytes}
use Rattle.amqp_value.specs.Encoding.{tag_octet, EncodesTruth, EncodesScalar, EncodesField, EncodesItems, EncodesPairs}
use Rattle.amqp_value.specs.Fields.{EncodesLongString, plain_long_string, plain_short_string}
use Rattle.amqp_value.specs.Plain.{plain_truth, plain_scalar, plain_field, plain_items, plain_pairs}
use Rattle.amqp_value.specs.Values.{Scalar, boolean, short_short_int, short_short_uint, errata_short_int, short_int}
use Rattle.amqp_value.specs.Values.{short_uint, long_int, long_uint, errata_long_long_int, long_long_int, float, double}
use Rattle.amqp_value.specs.Values.{decimal, timestamp, void, Datum, scalar, long_string, byte_array, array, table}
use Rattle.amqp_value.specs.Values.{Items, no_items, item, Pairs, no_pairs, pair}
use Rattle.amqp_method.specs.Arguments as arguments
use Rattle.amqp_method.specs.Arguments.{Argument, bit, octet, short, long, long_long, short_string}
use Rattle.amqp_method.specs.Encoding.{EncodesArgument}
use Rattle.amqp_method.specs.Plain.{plain_argument, plain_present, plain_start}
use Rattle.amqp_method.specs.Properties.{EncodesPresent, flags_of}
use Rattle.amqp_model.specs.Wire.Methods.{plain_header}
use Rattle.amqp_model.specs.End.Amounts.{OneHeaderLength}

truth : (holds : Bool) (octets : List ℕ) → EncodesTruth holds octets
    → length octets ≡ length (plain_truth holds)
truth false octets is = ap length is
truth true octets is = ap length is.3

scalar-length : (s : Scalar) (octets : List ℕ) → EncodesScalar s octets
    → length octets ≡ length (plain_scalar s)
scalar-length (boolean holds) octets is = truth holds octets is
scalar-length (short_short_int n) octets is = ap length is.octets_are
scalar-length (short_short_uint n) octets is = ap length is.octets_are
scalar-length (errata_short_int n) octets is = ap length is.octets_are
scalar-length (short_int n) octets is = ap length is.octets_are
scalar-length (short_uint n) octets is = ap length is.octets_are
scalar-length (long_int n) octets is = ap length is.octets_are
scalar-length (long_uint n) octets is = ap length is.octets_are
scalar-length (errata_long_long_int n) octets is = ap length is.octets_are
scalar-length (long_long_int n) octets is = ap length is.octets_are
scalar-length (float text) octets is = ap length is.octets_are
scalar-length (double text) octets is = ap length is.octets_are
scalar-length (decimal scale number) octets is =
    let first : length is.0 ≡ length (big_bytes 1 scale) = ap length is.3.octets_are in
    let second : length is.1 ≡ length (big_bytes 4 number) = ap length is.4.octets_are in
    ap length is.2
    ∙ omega (arith, length-append is.0 is.1, length-append (big_bytes 1 scale) (big_bytes 4 number), first, second)
scalar-length (timestamp n) octets is = ap length is.octets_are
scalar-length void octets is = ap length is

-- a long string, where what it counts is as long as another
counted : (text plain octets : List ℕ) → length text ≡ length plain → EncodesLongString text octets
    → length octets ≡ length (plain_long_string plain)
counted text plain octets same is =
    let count : length (big_bytes 4 (length text)) ≡ length (big_bytes 4 (length plain)) =
    ap (λ n. length (big_bytes 4 n)) same in
    ap length is.octets_are
    ∙ omega (
      arith,
      length-append (big_bytes 4 (length text)) text,
      length-append
          (big_bytes 4 (length plain)) plain,
      same,
      count,
    )

mutual
  field-length : (value : Datum) (octets : List ℕ) → EncodesField value octets
      → length octets ≡ length (plain_field value)
  field-length (scalar s) octets is = scalar-length s octets is
  field-length (long_string text) octets is = ap length is.octets_are
  field-length (byte_array text) octets is = ap length is.octets_are
  field-length (array items) octets is = counted is.0 (plain_items items) octets (items-length items is.0 is.2) is.1
  field-length (table pairs) octets is = counted is.0 (plain_pairs pairs) octets (pairs-length pairs is.0 is.2) is.1

  items-length : (items : Items) (octets : List ℕ) → EncodesItems items octets
      → length octets ≡ length (plain_items items)
  items-length no_items octets is = ap length is
  items-length (item value items) octets is =
      let here = field-length value is.0 is.3 in
      let later = items-length items is.1 is.4 in
      let split = length-append is.0 is.1 in
      let plain = length-append (plain_field value) (plain_items items) in
      ap length is.2 ∙ omega (arith, split, plain, here, later)

  pairs-length : (pairs : Pairs) (octets : List ℕ) → EncodesPairs pairs octets
      → length octets ≡ length (plain_pairs pairs)
  pairs-length no_pairs octets is = ap length is
  pairs-length (pair name value pairs) octets is =
      let name_is : length is.0 ≡ suc (length name) = ap length is.4.octets_are in
      let here = field-length value is.1 is.5 in
      let later = pairs-length pairs is.2 is.6 in
      let first = length-append is.0 ((tag_octet value ∷ is.1) ++ is.2) in
      let second = length-append is.1 is.2 in
      let plain_first =
      length-append (plain_short_string name) ((tag_octet value ∷ plain_field value) ++ plain_pairs pairs) in
      let plain_second = length-append (plain_field value) (plain_pairs pairs) in
      ap length is.3 ∙ omega (arith, name_is, here, later, first, second, plain_first, plain_second)

argument-length : (value : Argument) (octets : List ℕ) → EncodesArgument value octets
    → length octets ≡ length (plain_argument value)
argument-length (bit holds) octets is = absurd is
argument-length (octet n) octets is = ap length is.octets_are
argument-length (short n) octets is = ap length is.octets_are
argument-length (long n) octets is = ap length is.octets_are
argument-length (long_long n) octets is = ap length is.octets_are
argument-length (short_string text) octets is = ap length is.octets_are
argument-length (arguments.long_string text) octets is = ap length is.octets_are
argument-length (arguments.table pairs) octets is = field-length (table pairs) octets is.1

present-length : (properties : List (Option Argument)) (octets : List ℕ) → EncodesPresent properties octets
    → length octets ≡ length (plain_present properties)
present-length [] octets is = ap length is
present-length (None ∷ properties) octets is = present-length properties octets is
present-length (Some value ∷ properties) octets is =
    let here = argument-length value is.0 is.3 in
    let later = present-length properties is.1 is.4 in
    let split = length-append is.0 is.1 in
    let plain = length-append (plain_argument value) (plain_present properties) in
    ap length is.2 ∙ omega (arith, split, plain, here, later)

pub one-header_length : OneHeaderLength
unfolding plain_header
one-header_length header octets is =
    let class = ap length is.class_is.octets_are in
    let weight = ap length is.weight_is.octets_are in
    let size = ap length is.size_is.octets_are in
    let flags = ap length is.flags_are.octets_are in
    let rest = present-length header.properties is.rest is.encoded in
    let plain = length-append (plain_start header.body_size (flags_of header.properties))
    (plain_present header.properties) in
    ap length is.octets_are ∙ omega (
      arith,
      class,
      weight,
      size,
      flags,
      rest,
      plain,
      length-append is.class (is.weight ++ (is.size ++ (is.flags ++ is.rest))),
      length-append is.weight (is.size ++ (is.flags ++ is.rest)),
      length-append is.size (is.flags ++ is.rest),
      length-append is.flags is.rest,
      length-append (big_bytes 2 60)
          (big_bytes 2 0 ++ (big_bytes 8 header.body_size ++ big_bytes 2 (flags_of header.properties))),
      length-append (big_bytes 2 0) (big_bytes 8 header.body_size ++ big_bytes 2 (flags_of header.properties)),
      length-append (big_bytes 8 header.body_size) (big_bytes 2 (flags_of header.properties)),
    )
