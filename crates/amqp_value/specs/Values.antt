-- Field values without where they lie in memory, and how deep they nest.
use Rattle.std.specs.Prelude.{ℕ, suc, max, ℤ, List, [], ◌∷◌, Bool}

-- a value of fixed size
pub data Scalar : Type 0 where
  boolean : Bool → Scalar
  short_short_int : ℤ → Scalar
  short_short_uint : ℕ → Scalar
  errata_short_int : ℤ → Scalar
  short_int : ℤ → Scalar
  short_uint : ℕ → Scalar
  long_int : ℤ → Scalar
  long_uint : ℕ → Scalar
  errata_long_long_int : ℤ → Scalar
  long_long_int : ℤ → Scalar
  float : List ℕ → Scalar
  double : List ℕ → Scalar
  decimal : ℕ → ℕ → Scalar
  timestamp : ℕ → Scalar
  void : Scalar

mutual
  pub data Datum : Type 0 where
    scalar : Scalar → Datum
    long_string : List ℕ → Datum
    byte_array : List ℕ → Datum
    array : Items → Datum
    table : Pairs → Datum

  pub data Items : Type 0 where
    no_items : Items
    item : Datum → Items → Items

  pub data Pairs : Type 0 where
    no_pairs : Pairs
    pair : List ℕ → Datum → Pairs → Pairs

abbrev pub items_of : List Datum → Items
items_of [] = no_items
items_of (value ∷ values) = item value (items_of values)

abbrev pub pairs_of : List (List ℕ × Datum) → Pairs
pairs_of [] = no_pairs
pairs_of (first ∷ others) = pair first.0 first.1 (pairs_of others)

-- how deep arrays and tables nest
abbrev mutual
  pub depth : Datum → ℕ
  depth (scalar s) = 0
  depth (long_string octets) = 0
  depth (byte_array octets) = 0
  depth (array items) = suc (items_depth items)
  depth (table pairs) = suc (pairs_depth pairs)

  pub items_depth : Items → ℕ
  items_depth no_items = 0
  items_depth (item value items) = max (depth value) (items_depth items)

  pub pairs_depth : Pairs → ℕ
  pairs_depth no_pairs = 0
  pairs_depth (pair name value pairs) = max (depth value) (pairs_depth pairs)

-- a table with a pair after its last
abbrev pub with_pair : Pairs → List ℕ → Datum → Pairs
with_pair no_pairs name value = pair name value no_pairs
with_pair (pair first held pairs) name value = pair first held (with_pair pairs name value)

-- A table has depth 1, and each table or array inside adds 1.
abbrev pub table_depth : Pairs → ℕ
table_depth pairs = suc (pairs_depth pairs)
