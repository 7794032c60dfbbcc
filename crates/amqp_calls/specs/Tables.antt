-- What is told of a table or an array that is read.
use Rattle.std.specs.Prelude.{◌≡◌, ℕ, ◌<◌, ◌++◌, List, [], length, map, take, drop, Option, Some, None}
use Rattle.std.specs.Prelude.{Result, Ok, Err, ◌⊎◌}
use Rattle.amqp_value.specs.Pairs.{value_named}
use Rattle.amqp_value.specs.Reading.{elements, value_at, table_at}
use Rattle.amqp_value.specs.Values.{Datum, Pairs, pairs_of}
use Rattle.amqp_value.specs.declared.fault.ValueFault.{ValueFault}
use Rattle.amqp_calls.specs.CodecStatuses.{value_status}
use Rattle.amqp_calls.specs.Values.{datum_there, all_data}
use Rattle.amqp_calls.specs.declared.codec.tables.Pair.{Pair}
use Rattle.amqp_calls.specs.declared.codec.tables.TableRead.{TableRead}
use Rattle.amqp_calls.specs.declared.codec.values.Value.{Value}

-- a pair, if its value is one
abbrev pub pair_there : Pair → List ℕ × Option Datum
pair_there p = (p.name.now, datum_there p.value)

-- pairs, the values of which are there
abbrev pub named_there : List (List ℕ × Datum) → List (List ℕ × Option Datum)
named_there pairs = map (λ (p : List ℕ × Datum). (p.0, Some p.1)) pairs

-- pairs in their places and those that are left are all that there are
abbrev pub PairsMakeUp : List Pair → (left all : List (List ℕ × Datum)) → Type 0
PairsMakeUp placed left all = map pair_there placed ++ named_there left ≡ named_there all

-- values likewise
abbrev pub ValuesMakeUp : List Value → (left all : List Datum) → Type 0
ValuesMakeUp placed left all = map datum_there placed ++ all_data left ≡ all_data all

-- The table has these pairs, the first of them stand in their places, and nothing behind them is changed. Without a
-- fault all have a place, and otherwise each place is taken, and some pairs are left.
pub record ToldPairs (table : Pairs) (size : ℕ) (old new : List Pair) (status : ℕ) (out : TableRead) : Type 0 where
  pub all : List (List ℕ × Datum)
  pub left : List (List ℕ × Datum)
  pub table_is : table ≡ pairs_of all
  pub length_is : out.length ≡ size
  pub count_is : out.count ≡ length all
  pub pairs_are : PairsMakeUp (take out.placed new) left all
  pub others : drop out.placed new ≡ drop out.placed old
  pub room : ((status ≡ 0) × (left ≡ []) × (out.placed ≡ out.count))
      ⊎ ((status ≡ 7) × (out.placed ≡ length old) × (out.placed < out.count))

abbrev ToldTable : Result (Pairs × ℕ) ValueFault → List Pair → ℕ → List Pair → TableRead → Type 0
ToldTable (Ok x) old status new out = ToldPairs x.0 x.1 old new status out
ToldTable (Err e) old status new out = (status ≡ value_status e.kind) × (out.at ≡ e.at) × (new ≡ old)

abbrev pub ReadsTable : List ℕ → List Pair → ℕ → List Pair → TableRead → Type 0
ReadsTable octets old status new out = ToldTable (table_at octets) old status new out

-- the same of an array
pub record ToldItems (all : List Datum) (size : ℕ) (old new : List Value) (status : ℕ)
    (out : TableRead) : Type 0 where
  pub left : List Datum
  pub length_is : out.length ≡ size
  pub count_is : out.count ≡ length all
  pub values_are : ValuesMakeUp (take out.placed new) left all
  pub others : drop out.placed new ≡ drop out.placed old
  pub room : ((status ≡ 0) × (left ≡ []) × (out.placed ≡ out.count))
      ⊎ ((status ≡ 7) × (out.placed ≡ length old) × (out.placed < out.count))

abbrev ToldArray : Result (List Datum) ValueFault → ℕ → List Value → ℕ
    → List Value → TableRead → Type 0
ToldArray (Ok all) size old status new out = ToldItems all size old new status out
ToldArray (Err e) size old status new out = (status ≡ value_status e.kind) × (out.at ≡ e.at) × (new ≡ old)

abbrev pub ReadsArray : List ℕ → List Value → ℕ → List Value → TableRead → Type 0
ReadsArray octets old status new out =
    ToldArray (elements (value_at 31) (length octets) octets) (length octets) old status new out

-- the value under a name, or there is none
abbrev ToldValue : Option Datum → ℕ → Value → Type 0
ToldValue (Some value) status out = (status ≡ 0) × (datum_there out ≡ Some value)
ToldValue None status out = status ≡ 8

abbrev ToldNamed : List ℕ → Result (Pairs × ℕ) ValueFault → ℕ → Value → ℕ → Type 0
ToldNamed name (Ok x) status out at = ToldValue (value_named name x.0) status out
ToldNamed name (Err e) status out at = (status ≡ value_status e.kind) × (at ≡ e.at)

abbrev pub GetsValue : List ℕ → List ℕ → ℕ → Value → ℕ → Type 0
GetsValue octets name status out at = ToldNamed name (table_at octets) status out at
