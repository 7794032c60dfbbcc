-- The datum that a `Value` stands for.
use Rattle.std.specs.Prelude.{ℕ, List, map}
use Rattle.amqp_value.specs.Values.{boolean, short_short_int, short_short_uint, errata_short_int, short_int, short_uint}
use Rattle.amqp_value.specs.Values.{long_int, long_uint, errata_long_long_int, long_long_int, float, double, decimal}
use Rattle.amqp_value.specs.Values.{timestamp, void, Datum, scalar, long_string, byte_array, array, table, Items}
use Rattle.amqp_value.specs.Values.{items_of, Pairs, pairs_of}
use Rattle.amqp_value.specs.declared.values.Value.{Value, fold-Value}
use Rattle.amqp_value.specs.declared.values.Value.TheOpen.{Value-F}

-- one level, with each value inside already seen as its datum
abbrev view_step : Value-F Datum → Datum
view_step (Value-F.Boolean b) = scalar (boolean b)
view_step (Value-F.ShortShortInt n) = scalar (short_short_int n)
view_step (Value-F.ShortShortUint n) = scalar (short_short_uint n)
view_step (Value-F.ErrataShortInt n) = scalar (errata_short_int n)
view_step (Value-F.ShortInt n) = scalar (short_int n)
view_step (Value-F.ShortUint n) = scalar (short_uint n)
view_step (Value-F.LongInt n) = scalar (long_int n)
view_step (Value-F.LongUint n) = scalar (long_uint n)
view_step (Value-F.ErrataLongLongInt n) = scalar (errata_long_long_int n)
view_step (Value-F.LongLongInt n) = scalar (long_long_int n)
view_step (Value-F.Float octets) = scalar (float octets)
view_step (Value-F.Double octets) = scalar (double octets)
view_step (Value-F.Decimal scale number) = scalar (decimal scale number)
view_step (Value-F.Timestamp n) = scalar (timestamp n)
view_step Value-F.Void = scalar void
view_step (Value-F.LongString octets) = long_string octets
view_step (Value-F.ByteArray octets) = byte_array octets
view_step (Value-F.Array values) = array (items_of values.items)
view_step (Value-F.Table pairs) = table (pairs_of pairs.items)

abbrev pub view : Value → Datum
view = fold-Value Datum view_step

abbrev pub items_view : List Value → Items
items_view values = items_of (map view values)

-- a name with its value
abbrev pub named_view : List ℕ × Value → List ℕ × Datum
named_view named = (named.0, view named.1)

abbrev pub pairs_view : List (List ℕ × Value) → Pairs
pairs_view pairs = pairs_of (map named_view pairs)
