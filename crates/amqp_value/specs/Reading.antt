-- Reading from the prefix, with the first fault that is met. `end` is the place after the octets, so the first of
-- them stands at `end - length octets`.
use Rattle.std.specs.Prelude.{◌≡◌, ℕ, zero, suc, ◌+◌, ◌-◌, ◌==◌, List, [], ◌∷◌, ◌++◌, length, take, drop, slice_index}
use Rattle.std.specs.Prelude.{not, Option, Some, None, Result, Ok, Err, nat_lt, if◌then◌else◌, ◌⊎◌}
use Rattle.std.specs.Int.{w8, w16, w32, w64, cast_signed}
use Rattle.byteorder.specs.Endian.{big_number}
use Rattle.amqp_value.specs.Faults.{fault_at, out_of_memory}
use Rattle.amqp_value.specs.Values.{Scalar, boolean, short_short_int, short_short_uint, errata_short_int, short_int}
use Rattle.amqp_value.specs.Values.{short_uint, long_int, long_uint, errata_long_long_int, long_long_int, float, double}
use Rattle.amqp_value.specs.Values.{decimal, timestamp, void, Datum, scalar, long_string, byte_array, array, table}
use Rattle.amqp_value.specs.Values.{items_of, Pairs, pairs_of}
use Rattle.amqp_value.specs.declared.fault.ValueFault.{ValueFault}
use Rattle.amqp_value.specs.declared.fault.ValueFaultKind.{ValueFaultKind}
use Rattle.amqp_value.specs.declared.fault.ValueFaultKind.TheVariants.{Ends, UnknownTag, PassesItsEnd, TooDeep}
use Rattle.amqp_value.specs.declared.tag.Tag.{Tag}
use Rattle.amqp_value.specs.declared.tag.Tag.TheVariants.{Fixed, LongString, ByteArray, Array, Table}
use Rattle.amqp_value.specs.declared.tag.ScalarTag.{ScalarTag}
use Rattle.amqp_value.specs.declared.tag.ScalarTag.TheVariants as scalars

infixl 10 ◌>>=◌
abbrev pub ◌>>=◌ : {A B E : Type 0} → Result A E → (A → Result B E) → Result B E
(Ok x) >>= f = f x
(Err e) >>= f = Err e

-- What a call returned, seen by view, is what reading gives, unless memory ran out.
abbrev Fails : {Y : Type 0} → ValueFault → Result Y ValueFault → Type 0
Fails e read = (e ≡ out_of_memory) ⊎ (read ≡ Err e)

abbrev pub Gives : {X Y : Type 0} → (X → Y) → Result X ValueFault → Result Y ValueFault → Type 0
Gives view (Ok x) read = read ≡ Ok (view x)
Gives view (Err e) read = Fails e read

-- what is read from the prefix, and the octets after it
abbrev pub Read : Type 0 → Type 0
Read X = Result (X × List ℕ) ValueFault

abbrev pub Reader : Type 0 → Type 0
Reader X = ℕ → List ℕ → Read X

-- One element was read and stands after the others.
pub record AddsOne {X : Type 0} (before : List X) (read : Read X) (rest : List ℕ) (after : List X) : Type 0 where
  pub element : X
  pub is_read : read ≡ Ok (element, rest)
  pub is_added : after ≡ before ++ element ∷ []

-- a fault of the element that begins with the first of the octets
abbrev pub fault_here : ℕ → List ℕ → ValueFaultKind → ValueFault
fault_here end octets kind = fault_at (end - length octets) kind

-- the first n octets
abbrev pub prefix_of : ℕ → Reader (List ℕ)
prefix_of n end octets =
    if nat_lt (length octets) n then Err (fault_here end octets PassesItsEnd) else Ok (take n octets, drop n octets)

-- a count of four octets, and that many
abbrev pub counted : Reader (List ℕ)
counted end octets =
    if nat_lt (length octets) 4 then Err (fault_here end octets PassesItsEnd)
    else (if nat_lt (length octets - 4) (big_number 4 octets) then Err (fault_here end octets PassesItsEnd)
    else Ok (take (big_number 4 octets) (drop 4 octets), drop (big_number 4 octets) (drop 4 octets)))

-- a length octet, and that many
abbrev pub name_at : Reader (List ℕ)
name_at end [] = Err (fault_here end [] PassesItsEnd)
name_at end (n ∷ octets) =
    if nat_lt (length octets) n then Err (fault_here end (n ∷ octets) PassesItsEnd)
    else Ok (take n octets, drop n octets)

abbrev pub tag_of : ℕ → Option Tag
tag_of octet =
    if octet == 116 then Some (Fixed scalars.Boolean)
    else (if octet == 98 then Some (Fixed scalars.ShortShortInt)
    else (if octet == 66 then Some (Fixed scalars.ShortShortUint)
    else (if octet == 115 then Some (Fixed scalars.ErrataShortInt)
    else (if octet == 85 then Some (Fixed scalars.ShortInt)
    else (if octet == 117 then Some (Fixed scalars.ShortUint)
    else (if octet == 73 then Some (Fixed scalars.LongInt)
    else (if octet == 105 then Some (Fixed scalars.LongUint)
    else (if octet == 108 then Some (Fixed scalars.ErrataLongLongInt)
    else (if octet == 76 then Some (Fixed scalars.LongLongInt)
    else (if octet == 102 then Some (Fixed scalars.Float)
    else (if octet == 100 then Some (Fixed scalars.Double)
    else (if octet == 68 then Some (Fixed scalars.Decimal)
    else (if octet == 84 then Some (Fixed scalars.Timestamp)
    else (if octet == 86 then Some (Fixed scalars.Void)
    else (if octet == 83 then Some LongString
    else (if octet == 120 then Some ByteArray
    else (if octet == 65 then Some Array
    else (if octet == 70 then Some Table
    else None))))))))))))))))))

-- how many octets stand after the tag
abbrev pub width_of : ScalarTag → ℕ
width_of scalars.Boolean = 1
width_of scalars.ShortShortInt = 1
width_of scalars.ShortShortUint = 1
width_of scalars.ErrataShortInt = 2
width_of scalars.ShortInt = 2
width_of scalars.ShortUint = 2
width_of scalars.LongInt = 4
width_of scalars.LongUint = 4
width_of scalars.ErrataLongLongInt = 8
width_of scalars.LongLongInt = 8
width_of scalars.Float = 4
width_of scalars.Double = 8
width_of scalars.Decimal = 5
width_of scalars.Timestamp = 8
width_of scalars.Void = 0

-- the value that they are
abbrev pub scalar_of : ScalarTag → List ℕ → Scalar
scalar_of scalars.Boolean field = boolean (not (slice_index field 0 == 0))
scalar_of scalars.ShortShortInt field = short_short_int (cast_signed w8 (slice_index field 0))
scalar_of scalars.ShortShortUint field = short_short_uint (slice_index field 0)
scalar_of scalars.ErrataShortInt field = errata_short_int (cast_signed w16 (big_number 2 field))
scalar_of scalars.ShortInt field = short_int (cast_signed w16 (big_number 2 field))
scalar_of scalars.ShortUint field = short_uint (big_number 2 field)
scalar_of scalars.LongInt field = long_int (cast_signed w32 (big_number 4 field))
scalar_of scalars.LongUint field = long_uint (big_number 4 field)
scalar_of scalars.ErrataLongLongInt field = errata_long_long_int (cast_signed w64 (big_number 8 field))
scalar_of scalars.LongLongInt field = long_long_int (cast_signed w64 (big_number 8 field))
scalar_of scalars.Float field = float field
scalar_of scalars.Double field = double field
scalar_of scalars.Decimal field = decimal (slice_index field 0) (big_number 4 (drop 1 field))
scalar_of scalars.Timestamp field = timestamp (big_number 8 field)
scalar_of scalars.Void field = void

-- elements up to the end, of which there are no more than fuel
unfoldable pub many : {X : Type 0} → Reader X → ℕ → ℕ → List ℕ → Result (List X) ValueFault
many read fuel end [] = Ok []
many read zero end (octet ∷ octets) = Ok []
many read (suc fuel) end (octet ∷ octets) = do
  first ← read end (octet ∷ octets)
  others ← many read fuel end first.1
  Ok (first.0 ∷ others)

-- elements up to the end; each has an octet at least
unfoldable pub elements : {X : Type 0} → Reader X → ℕ → List ℕ → Result (List X) ValueFault
elements read end octets = many read (length octets) end octets

-- a name, and what is read after it
unfoldable pub named : {X : Type 0} → Reader X → Reader (List ℕ × X)
named read end octets = do
  name ← name_at end octets
  value ← read end name.1
  Ok ((name.0, value.0), value.1)

-- the value that is read, under a name
abbrev pub under : {X : Type 0} → List ℕ → Read X → Read (List ℕ × X)
under name read = do
  value ← read
  Ok ((name, value.0), value.1)

-- What stands after a tag, the first of the octets. The values in an array or a table are read by inner, if any may be
-- there.
unfoldable pub after_tag : Option (Reader Datum) → ℕ → List ℕ → List ℕ → Option Tag → Read Datum
after_tag inner end octets rest None = Err (fault_here end octets UnknownTag)
after_tag inner end octets rest (Some (Fixed tag)) = do
  field ← prefix_of (width_of tag) end rest
  Ok (scalar (scalar_of tag field.0), field.1)
after_tag inner end octets rest (Some LongString) = do
  text ← counted end rest
  Ok (long_string text.0, text.1)
after_tag inner end octets rest (Some ByteArray) = do
  text ← counted end rest
  Ok (byte_array text.0, text.1)
after_tag None end octets rest (Some Array) = Err (fault_here end octets TooDeep)
after_tag (Some read) end octets rest (Some Array) = do
  body ← counted end rest
  values ← elements read (end - length body.1) body.0
  Ok (array (items_of values), body.1)
after_tag None end octets rest (Some Table) = Err (fault_here end octets TooDeep)
after_tag (Some read) end octets rest (Some Table) = do
  body ← counted end rest
  pairs ← elements (named read) (end - length body.1) body.0
  Ok (table (pairs_of pairs), body.1)

unfoldable pub tagged : Option (Reader Datum) → Reader Datum
tagged inner end [] = Err (fault_here end [] PassesItsEnd)
tagged inner end (octet ∷ rest) = after_tag inner end (octet ∷ rest) rest (tag_of octet)

-- a value, in which arrays and tables may nest so many levels deep
unfoldable pub value_at : ℕ → Reader Datum
value_at zero = tagged None
value_at (suc levels) = tagged (Some (value_at levels))

-- a table, and how many octets it has
unfoldable pub table_at : List ℕ → Result (Pairs × ℕ) ValueFault
table_at octets =
    if nat_lt (length octets) 4 then Err (fault_at 0 Ends)
    else (if nat_lt (length octets - 4) (big_number 4 octets) then Err (fault_at 0 Ends)
    else (elements (named (value_at 31)) (4 + big_number 4 octets) (take (big_number 4 octets) (drop 4 octets))
    >>= λ pairs. Ok (pairs_of pairs, 4 + big_number 4 octets)))
