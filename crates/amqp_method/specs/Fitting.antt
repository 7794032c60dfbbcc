-- What fits its field: numbers, strings, tables and the properties of a content header. `amqp0-9-1.xml`, domains, and
-- the AMQP 0-9-1 specification, section 4.2.5.
use Rattle.std.specs.Prelude.{◌≡◌, ◌<◌, ◌≤◌, ◌^◌, ℕ, List, length, Option, Some, None, FitsSigned}
use Rattle.std.specs.Int.{w8, w16, w32, w64}
use Rattle.std.specs.List.{AllByRecursion}
use Rattle.amqp_value.specs.Plain.{plain_items, plain_pairs}
use Rattle.amqp_value.specs.Values.{Scalar, boolean, short_short_int, short_short_uint, errata_short_int, short_int, short_uint, long_int, long_uint, errata_long_long_int, long_long_int, float, double, decimal, timestamp, void, Datum, scalar, long_string as long_string_datum, byte_array, array, table as table_datum, Items, no_items, item, Pairs, no_pairs, pair, table_depth}
use Rattle.amqp_method.specs.Arguments.{Argument, bit, octet, short, long, long_long, short_string, long_string, table}

-- each of these is an octet
abbrev pub AreOctets : List ℕ → Type 0
AreOctets octets = AllByRecursion (λ octet. octet < 2 ^ 8) octets

-- a short string has fewer than 256 octets
abbrev pub FitsShort : List ℕ → Type 0
FitsShort text = (length text < 2 ^ 8) × AreOctets text

-- a long string has fewer than 4294967296 octets
abbrev pub FitsLong : List ℕ → Type 0
FitsLong text = (length text < 2 ^ 32) × AreOctets text

-- a value of fixed size fits that size
abbrev pub ScalarFits : Scalar → Type 0
ScalarFits (boolean holds) = Unit {0}
ScalarFits (short_short_int n) = FitsSigned w8 n
ScalarFits (short_short_uint n) = n < 2 ^ 8
ScalarFits (errata_short_int n) = FitsSigned w16 n
ScalarFits (short_int n) = FitsSigned w16 n
ScalarFits (short_uint n) = n < 2 ^ 16
ScalarFits (long_int n) = FitsSigned w32 n
ScalarFits (long_uint n) = n < 2 ^ 32
ScalarFits (errata_long_long_int n) = FitsSigned w64 n
ScalarFits (long_long_int n) = FitsSigned w64 n
ScalarFits (float octets) = (length octets ≡ 4) × AreOctets octets
ScalarFits (double octets) = (length octets ≡ 8) × AreOctets octets
ScalarFits (decimal scale number) = (scale < 2 ^ 8) × (number < 2 ^ 32)
ScalarFits (timestamp n) = n < 2 ^ 64
ScalarFits void = Unit {0}

abbrev mutual
  -- each number, name, string and count in a value fits its field
  pub DatumFits : Datum → Type 0
  DatumFits (scalar s) = ScalarFits s
  DatumFits (long_string_datum text) = FitsLong text
  DatumFits (byte_array octets) = FitsLong octets
  DatumFits (array items) = (length (plain_items items) < 2 ^ 32) × ItemsFit items
  DatumFits (table_datum pairs) = (length (plain_pairs pairs) < 2 ^ 32) × PairsFit pairs

  -- each value in an array fits
  pub ItemsFit : Items → Type 0
  ItemsFit no_items = Unit {0}
  ItemsFit (item value items) = DatumFits value × ItemsFit items

  -- each name and each value in a table fits
  pub PairsFit : Pairs → Type 0
  PairsFit no_pairs = Unit {0}
  PairsFit (pair name value pairs) = FitsShort name × DatumFits value × PairsFit pairs

-- a table nests no deeper than 32, and all that is in it fits
abbrev pub TableFits : Pairs → Type 0
TableFits pairs = (table_depth pairs ≤ 32) × DatumFits (table_datum pairs)

-- an argument fits a field of its kind
abbrev pub ArgumentFits : Argument → Type 0
ArgumentFits (bit holds) = Unit {0}
ArgumentFits (octet n) = n < 2 ^ 8
ArgumentFits (short n) = n < 2 ^ 16
ArgumentFits (long n) = n < 2 ^ 32
ArgumentFits (long_long n) = n < 2 ^ 64
ArgumentFits (short_string text) = FitsShort text
ArgumentFits (long_string text) = FitsLong text
ArgumentFits (table pairs) = TableFits pairs

-- each of the arguments fits a field of its kind
abbrev pub ArgumentsFit : List Argument → Type 0
ArgumentsFit args = AllByRecursion ArgumentFits args

-- a property, if it is there, fits its field
abbrev PropertyFits : Option Argument → Type 0
PropertyFits None = Unit {0}
PropertyFits (Some value) = ArgumentFits value

-- each property that is there fits its field
abbrev pub PropertiesFit : List (Option Argument) → Type 0
PropertiesFit properties = AllByRecursion PropertyFits properties
