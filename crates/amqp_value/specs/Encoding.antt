-- Which octets encode which field value and which table (AMQP 0-9-1 specification, 4.2.1, field-table and field-value,
-- and 4.2.5.5; `s`, `l` and `x` after the errata that RabbitMQ published).
use Rattle.std.specs.Prelude.{◌≡◌, ◌≢◌, ℕ, ◌<◌, ◌≤◌, List, [], ◌∷◌, ◌++◌, Bool, true, false}
use Rattle.std.specs.List.{AllByRecursion}
use Rattle.std.specs.Int.{w8, w16, w32, w64}
use Rattle.amqp_value.specs.Fields.{EncodesNumber, EncodesSigned, EncodesOctets, EncodesShortString, EncodesLongString}
use Rattle.amqp_value.specs.Values.{Scalar, boolean, short_short_int, short_short_uint, errata_short_int, short_int}
use Rattle.amqp_value.specs.Values.{short_uint, long_int, long_uint, errata_long_long_int, long_long_int, float, double}
use Rattle.amqp_value.specs.Values.{decimal, timestamp, void, Datum, scalar, long_string, byte_array, array, table}
use Rattle.amqp_value.specs.Values.{Items, no_items, item, Pairs, no_pairs, pair, table_depth}

-- the ASCII code of a value's tag
abbrev pub scalar_tag : Scalar → ℕ
scalar_tag (boolean holds) = 116  -- t
scalar_tag (short_short_int n) = 98  -- b
scalar_tag (short_short_uint n) = 66  -- B
scalar_tag (errata_short_int n) = 115  -- s
scalar_tag (short_int n) = 85  -- U
scalar_tag (short_uint n) = 117  -- u
scalar_tag (long_int n) = 73  -- I
scalar_tag (long_uint n) = 105  -- i
scalar_tag (errata_long_long_int n) = 108  -- l
scalar_tag (long_long_int n) = 76  -- L
scalar_tag (float octets) = 102  -- f
scalar_tag (double octets) = 100  -- d
scalar_tag (decimal scale number) = 68  -- D
scalar_tag (timestamp n) = 84  -- T
scalar_tag void = 86  -- V

abbrev pub tag_octet : Datum → ℕ
tag_octet (scalar s) = scalar_tag s
tag_octet (long_string text) = 83  -- S
tag_octet (byte_array octets) = 120  -- x
tag_octet (array items) = 65  -- A
tag_octet (table pairs) = 70  -- F

-- the nineteen tags
abbrev tags : List ℕ
tags = 116 ∷ 98 ∷ 66 ∷ 115 ∷ 85 ∷ 117 ∷ 73 ∷ 105 ∷ 108 ∷ 76 ∷ 102 ∷ 100 ∷ 68 ∷ 84 ∷ 86 ∷ 83 ∷ 120 ∷ 65 ∷ 70 ∷ []

abbrev pub IsNoTag : ℕ → Type 0
IsNoTag octet = AllByRecursion (λ tag. octet ≢ tag) tags

-- false is 0, and true every other octet
abbrev pub EncodesTruth : Bool → List ℕ → Type 0
EncodesTruth false octets = octets ≡ 0 ∷ []
EncodesTruth true octets = (octet : ℕ) × (0 < octet) × (octet < 256) × (octets ≡ octet ∷ [])

-- the octets after the tag of a value of fixed size
abbrev pub EncodesScalar : Scalar → List ℕ → Type 0
EncodesScalar (boolean holds) octets = EncodesTruth holds octets
EncodesScalar (short_short_int n) octets = EncodesSigned w8 n octets
EncodesScalar (short_short_uint n) octets = EncodesNumber 1 n octets
EncodesScalar (errata_short_int n) octets = EncodesSigned w16 n octets
EncodesScalar (short_int n) octets = EncodesSigned w16 n octets
EncodesScalar (short_uint n) octets = EncodesNumber 2 n octets
EncodesScalar (long_int n) octets = EncodesSigned w32 n octets
EncodesScalar (long_uint n) octets = EncodesNumber 4 n octets
EncodesScalar (errata_long_long_int n) octets = EncodesSigned w64 n octets
EncodesScalar (long_long_int n) octets = EncodesSigned w64 n octets
EncodesScalar (float text) octets = EncodesOctets 4 text octets
EncodesScalar (double text) octets = EncodesOctets 8 text octets
EncodesScalar (decimal scale number) octets =
    (first second : List ℕ) × (octets ≡ first ++ second) × EncodesNumber 1 scale first × EncodesNumber 4 number second
EncodesScalar (timestamp n) octets = EncodesNumber 8 n octets
EncodesScalar void octets = octets ≡ []

abbrev mutual
  -- the octets after the tag of a value
  pub EncodesField : Datum → List ℕ → Type 0
  EncodesField (scalar s) octets = EncodesScalar s octets
  EncodesField (long_string text) octets = EncodesLongString text octets
  EncodesField (byte_array text) octets = EncodesLongString text octets
  EncodesField (array items) octets = (body : List ℕ) × EncodesLongString body octets × EncodesItems items body
  EncodesField (table pairs) octets = (body : List ℕ) × EncodesLongString body octets × EncodesPairs pairs body

  -- tags with values, one after the other
  pub EncodesItems : Items → List ℕ → Type 0
  EncodesItems no_items octets = octets ≡ []
  EncodesItems (item value items) octets =
      (field rest : List ℕ) × (octets ≡ (tag_octet value ∷ field) ++ rest) × EncodesField value field
      × EncodesItems items rest

  -- names and tags with values, one after the other
  pub EncodesPairs : Pairs → List ℕ → Type 0
  EncodesPairs no_pairs octets = octets ≡ []
  EncodesPairs (pair name value pairs) octets =
      (first field rest : List ℕ) × (octets ≡ first ++ ((tag_octet value ∷ field) ++ rest))
      × EncodesShortString name first × EncodesField value field × EncodesPairs pairs rest

-- a tag octet, and the value after it
abbrev pub EncodesValue : Datum → List ℕ → Type 0
EncodesValue value octets = (field : List ℕ) × (octets ≡ tag_octet value ∷ field) × EncodesField value field

-- What nests deeper than 32 is encoded by nothing.
abbrev pub EncodesTable : Pairs → List ℕ → Type 0
EncodesTable pairs octets = (table_depth pairs ≤ 32) × EncodesField (table pairs) octets
