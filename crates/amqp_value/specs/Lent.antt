-- What callers see of views of octets: the values that the octets encode.
use Rattle.std.specs.Prelude.{ℕ, List, length}
use Rattle.std.specs.Borrow.{Bor}
use Rattle.amqp_value.specs.Values.{boolean, short_short_int, short_short_uint, errata_short_int, short_int, short_uint}
use Rattle.amqp_value.specs.Values.{long_int, long_uint, errata_long_long_int, long_long_int, float, double, decimal}
use Rattle.amqp_value.specs.Values.{timestamp, void, Datum, scalar, long_string, byte_array, array, table, Items}
use Rattle.amqp_value.specs.Values.{items_of, Pairs}
use Rattle.amqp_value.specs.Whole.{items_encoded, pairs_encoded, table_encoded}
use Rattle.amqp_value.specs.declared.array_ref.ArrayRef.{ArrayRef}
use Rattle.amqp_value.specs.declared.items_ref.ItemsRef.{ItemsRef}
use Rattle.amqp_value.specs.declared.pairs_ref.PairsRef.{PairsRef}
use Rattle.amqp_value.specs.declared.table_ref.TableRef.{TableRef}
use Rattle.amqp_value.specs.declared.value_ref.ValueRef.{ValueRef}
use Rattle.amqp_value.specs.declared.value_ref.ValueRef.TheVariants as refs

-- a table's own octets, its count with them
abbrev pub octets_of : TableRef → List ℕ
octets_of t = t.octets.now

abbrev pub table_ref_view : TableRef → Pairs
table_ref_view t = table_encoded (octets_of t)

-- an array's own octets, without its count
abbrev pub body_of : ArrayRef → List ℕ
body_of a = a.body.now

-- the values of an array, in order
abbrev pub array_ref_view : ArrayRef → Items
array_ref_view a = items_of (items_encoded (body_of a))

-- the names with values that are left
abbrev pub pairs_left : PairsRef → List (List ℕ × Datum)
pairs_left pairs = pairs_encoded pairs.rest.now

-- the values that are left
abbrev pub items_left : ItemsRef → List Datum
items_left items = items_encoded items.rest.now

abbrev pub value_ref_view : ValueRef → Datum
value_ref_view (refs.Boolean holds) = scalar (boolean holds)
value_ref_view (refs.ShortShortInt n) = scalar (short_short_int n)
value_ref_view (refs.ShortShortUint n) = scalar (short_short_uint n)
value_ref_view (refs.ErrataShortInt n) = scalar (errata_short_int n)
value_ref_view (refs.ShortInt n) = scalar (short_int n)
value_ref_view (refs.ShortUint n) = scalar (short_uint n)
value_ref_view (refs.LongInt n) = scalar (long_int n)
value_ref_view (refs.LongUint n) = scalar (long_uint n)
value_ref_view (refs.ErrataLongLongInt n) = scalar (errata_long_long_int n)
value_ref_view (refs.LongLongInt n) = scalar (long_long_int n)
value_ref_view (refs.Float octets) = scalar (float octets)
value_ref_view (refs.Double octets) = scalar (double octets)
value_ref_view (refs.Decimal scale number) = scalar (decimal scale number)
value_ref_view (refs.Timestamp n) = scalar (timestamp n)
value_ref_view refs.Void = scalar void
value_ref_view (refs.LongString octets) = long_string octets.now
value_ref_view (refs.ByteArray octets) = byte_array octets.now
value_ref_view (refs.Array values) = array (array_ref_view values)
value_ref_view (refs.Table pairs) = table (table_ref_view pairs)

-- a name with its value
abbrev pub named_ref_view : Bor (List ℕ) × ValueRef → List ℕ × Datum
named_ref_view named = (named.0.now, value_ref_view named.1)

-- how many octets an array or a table that is lent has, and 0 of every other value: what is inside has fewer
abbrev pub octets_inside : ValueRef → ℕ
octets_inside (refs.Array values) = length (body_of values)
octets_inside (refs.Table pairs) = length (octets_of pairs)
octets_inside other = 0
