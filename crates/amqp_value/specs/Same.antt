-- When two values are the same: they have one tag, and the same content.
use Rattle.std.specs.Prelude.{◌==◌, ◌&&◌, Bool, true, false}
use Rattle.std.specs.Bool.{beq}
use Rattle.std.specs.Ordering.{int_eq}
use Rattle.std.specs.Str.{bytes_eq}
use Rattle.amqp_value.specs.Values.{Scalar, boolean, short_short_int, short_short_uint, errata_short_int, short_int}
use Rattle.amqp_value.specs.Values.{short_uint, long_int, long_uint, errata_long_long_int, long_long_int, float, double}
use Rattle.amqp_value.specs.Values.{decimal, timestamp, void, Datum, scalar, long_string, byte_array, array, table}
use Rattle.amqp_value.specs.Values.{Items, no_items, item, Pairs, no_pairs, pair}

abbrev pub same_scalar : Scalar → Scalar → Bool
same_scalar (boolean a) (boolean b) = beq a b
same_scalar (short_short_int a) (short_short_int b) = int_eq a b
same_scalar (short_short_uint a) (short_short_uint b) = a == b
same_scalar (errata_short_int a) (errata_short_int b) = int_eq a b
same_scalar (short_int a) (short_int b) = int_eq a b
same_scalar (short_uint a) (short_uint b) = a == b
same_scalar (long_int a) (long_int b) = int_eq a b
same_scalar (long_uint a) (long_uint b) = a == b
same_scalar (errata_long_long_int a) (errata_long_long_int b) = int_eq a b
same_scalar (long_long_int a) (long_long_int b) = int_eq a b
same_scalar (float a) (float b) = bytes_eq a b
same_scalar (double a) (double b) = bytes_eq a b
same_scalar (decimal scale a) (decimal other b) = (scale == other) && (a == b)
same_scalar (timestamp a) (timestamp b) = a == b
same_scalar void void = true
same_scalar s other = false

-- arrays have the same values in the same order, and tables the same names with the same values
abbrev mutual
  pub same_datum : Datum → Datum → Bool
  same_datum (scalar a) (scalar b) = same_scalar a b
  same_datum (long_string a) (long_string b) = bytes_eq a b
  same_datum (byte_array a) (byte_array b) = bytes_eq a b
  same_datum (array a) (array b) = same_items a b
  same_datum (table a) (table b) = same_pairs a b
  same_datum value other = false

  pub same_items : Items → Items → Bool
  same_items no_items no_items = true
  same_items (item a items) (item b others) = same_datum a b && same_items items others
  same_items items others = false

  pub same_pairs : Pairs → Pairs → Bool
  same_pairs no_pairs no_pairs = true
  same_pairs (pair name a pairs) (pair other b others) = bytes_eq name other
      && (same_datum a b && same_pairs pairs others)
  same_pairs pairs others = false
