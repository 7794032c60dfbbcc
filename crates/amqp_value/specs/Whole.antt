-- Octets that encode a whole: the values of an array, the pairs of a table, a table with its count. What they encode
-- depends on nothing around them: deeper than 31 levels in a table nothing is read.
use Rattle.std.specs.Prelude.{◌≡◌, ℕ, List, [], ◌∷◌, length, IsTrue, Some, Ok}
use Rattle.std.specs.Result.{is_ok, result_unwrap_or}
use Rattle.amqp_value.specs.Checking.{measured}
use Rattle.amqp_value.specs.Reading.{elements, named, value_at, name_at, counted, tag_of, table_at}
use Rattle.amqp_value.specs.Values.{Datum, Pairs, no_pairs}
use Rattle.amqp_value.specs.declared.tag.Tag.{Tag}

-- the values that octets encode, one after the other; none where they encode none
abbrev pub items_encoded : List ℕ → List Datum
items_encoded octets = result_unwrap_or (elements (value_at 31) 0 octets) []

-- the names with values that octets encode, one after the other; none where they encode none
abbrev pub pairs_encoded : List ℕ → List (List ℕ × Datum)
pairs_encoded octets = result_unwrap_or (elements (named (value_at 31)) 0 octets) []

-- the table that the octets begin with; an empty one where they begin with none
abbrev pub table_encoded : List ℕ → Pairs
table_encoded octets = (result_unwrap_or (table_at octets) (no_pairs, 0)).0

-- Octets encode values.
abbrev pub AreItems : List ℕ → Type 0
AreItems octets = IsTrue (is_ok (elements (value_at 31) 0 octets))

-- Octets encode names with values.
abbrev pub ArePairs : List ℕ → Type 0
ArePairs octets = IsTrue (is_ok (elements (named (value_at 31)) 0 octets))

-- All the octets encode one table.
abbrev pub IsTable : List ℕ → Type 0
IsTable octets = measured (table_at octets) ≡ Ok (length octets)

-- Octets begin with a table, a value, a name with its value, a name, or a count and what it counts.
abbrev pub BeginsTable : List ℕ → Type 0
BeginsTable octets = IsTrue (is_ok (table_at octets))

abbrev pub BeginsValue : List ℕ → Type 0
BeginsValue octets = IsTrue (is_ok (value_at 31 0 octets))

abbrev pub BeginsPair : List ℕ → Type 0
BeginsPair octets = IsTrue (is_ok (named (value_at 31) 0 octets))

abbrev pub BeginsName : List ℕ → Type 0
BeginsName octets = IsTrue (is_ok (name_at 0 octets))

abbrev pub BeginsCounted : List ℕ → Type 0
BeginsCounted octets = IsTrue (is_ok (counted 0 octets))

-- Octets begin with an octet of that tag, and these octets stand after it.
abbrev pub Tagged : List ℕ → Tag → List ℕ → Type 0
Tagged octets tag rest = (octet : ℕ) × (octets ≡ octet ∷ rest) × (tag_of octet ≡ Some tag)
