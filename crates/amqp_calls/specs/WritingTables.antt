-- What is told of a table that is written, and which values can stand in it.
use Rattle.std.specs.Prelude.{◌≡◌, ◌<◌, ◌&&◌, ℕ, zero, suc, ℤ, pos, negsuc, List, [], ◌∷◌}
use Rattle.std.specs.Prelude.{length, map, Bool, true, false, Option, Some, Result, Err, ◌⊎◌, if◌then◌else◌}
use Rattle.std.specs.Prelude.{nat_eq, nat_lt, int_le}
use Rattle.amqp_value.specs.Plain.{plain_table, CountsFit}
use Rattle.amqp_value.specs.Reading.{elements, value_at, table_at}
use Rattle.amqp_value.specs.Faults.{fault_at}
use Rattle.amqp_value.specs.Values.{Datum, Pairs, pairs_of, table as table_of, table_depth}
use Rattle.amqp_value.specs.declared.fault.ValueFault.{ValueFault}
use Rattle.amqp_value.specs.declared.fault.ValueFaultKind.TheVariants.{TooDeep}
use Rattle.amqp_calls.specs.Tables.{pair_there, named_there}
use Rattle.amqp_calls.specs.Values.{signed_number}
use Rattle.amqp_calls.specs.Writing.{is_table, ToldWrite, Writes}
use Rattle.amqp_calls.specs.declared.codec.owned.ArgFault.{ArgFault}
use Rattle.amqp_calls.specs.declared.codec.owned.ArgFault.TheVariants as arg
use Rattle.amqp_calls.specs.declared.codec.tables.Pair.{Pair}
use Rattle.amqp_calls.specs.declared.codec.values.Value.{Value}
use Rattle.amqp_calls.specs.declared.codec.writing.WriteFault.{WriteFault}
use Rattle.amqp_calls.specs.declared.codec.writing.WriteFault.TheVariants.{UnknownKind, Misfit, Inside, Room, TooLong}
use Rattle.amqp_calls.specs.declared.codec.writing.WriteFault.TheVariants.{OutOfMemory}
use Rattle.amqp_calls.specs.declared.codec.writing.Written.{Written}

abbrev pub within : ℤ → ℤ → ℤ → Bool
within least greatest n = int_le least n && int_le n greatest

-- a value is one for its tag: a number or a count fits, and a table's octets are all of a table
abbrev fits_tag : Value → Bool
fits_tag v =
    if nat_eq v.kind 116 then true
    else (if nat_eq v.kind 98 then within (negsuc 127) (pos 127) (signed_number v)
    else (if nat_eq v.kind 66 then nat_lt v.number 256
    else (if nat_eq v.kind 115 then within (negsuc 32767) (pos 32767) (signed_number v)
    else (if nat_eq v.kind 85 then within (negsuc 32767) (pos 32767) (signed_number v)
    else (if nat_eq v.kind 117 then nat_lt v.number 65536
    else (if nat_eq v.kind 73 then within (negsuc 2147483647) (pos 2147483647) (signed_number v)
    else (if nat_eq v.kind 105 then nat_lt v.number 4294967296
    else (if nat_eq v.kind 108 then true
    else (if nat_eq v.kind 76 then true
    else (if nat_eq v.kind 102 then nat_lt v.number 4294967296
    else (if nat_eq v.kind 100 then true
    else (if nat_eq v.kind 68 then nat_lt v.number 4294967296
    else (if nat_eq v.kind 84 then true
    else (if nat_eq v.kind 86 then true
    else (if nat_eq v.kind 83 then nat_lt (length v.octets.now) 4294967296
    else (if nat_eq v.kind 120 then nat_lt (length v.octets.now) 4294967296
    else (if nat_eq v.kind 65 then true
    else (if nat_eq v.kind 70 then is_table v.octets.now
    else false))))))))))))))))))

-- the octets of a value aren't an array, or a table
abbrev FaultInside : Value → ValueFault → Type 0
FaultInside v e =
    ((v.kind ≡ 65) × (elements (value_at 31) (length v.octets.now) v.octets.now ≡ Err e))
    ⊎ ((v.kind ≡ 70) × (table_at v.octets.now ≡ Err e))

-- the octets aren't an array
abbrev pub NotArray : List ℕ → ArgFault → Type 0
NotArray octets arg.Misfit = ⊥
NotArray octets (arg.Inside e) = elements (value_at 31) (length octets) octets ≡ Err e
NotArray octets arg.OutOfMemory = ⊥

-- the value isn't one for any tag
abbrev pub NotDatum : Value → ArgFault → Type 0
NotDatum v arg.Misfit = fits_tag v ≡ false
NotDatum v (arg.Inside e) = FaultInside v e
NotDatum v arg.OutOfMemory = Unit {0}

-- ---- pairs

abbrev pub one_there : List ℕ × Datum → List ℕ × Option Datum
one_there p = (p.0, Some p.1)

-- a name has fewer than 256 octets, and its value is one for its tag
abbrev fits_pair : Pair → Bool
fits_pair p = nat_lt (length p.name.now) 256 && fits_tag p.value

abbrev pub NotPair : Pair → ArgFault → Type 0
NotPair p arg.Misfit = fits_pair p ≡ false
NotPair p (arg.Inside e) = FaultInside p.value e
NotPair p arg.OutOfMemory = Unit {0}

-- what holds of the pair at a place
abbrev pub AtPair : ℕ → List Pair → (Pair → Type 0) → Type 0
AtPair place [] P = ⊥
AtPair zero (p ∷ pairs) P = P p
AtPair (suc n) (p ∷ pairs) P = AtPair n pairs P

-- a pair among these can't stand in a table
abbrev pub NotPairs : List Pair → WriteFault → Type 0
NotPairs pairs UnknownKind = ⊥
NotPairs pairs (Misfit place) = AtPair place pairs (λ p. fits_pair p ≡ false)
NotPairs pairs (Inside place e) = AtPair place pairs (λ p. FaultInside p.value e)
NotPairs pairs Room = ⊥
NotPairs pairs TooLong = ⊥
NotPairs pairs OutOfMemory = Unit {0}

-- the table has these pairs
abbrev pub IsTable : List Pair → Pairs → Type 0
IsTable pairs table =
    (named : List (List ℕ × Datum)) × (map pair_there pairs ≡ named_there named) × (table ≡ pairs_of named)

-- the pairs nest too deep
abbrev TooDeepFor : List Pair → ℕ → ValueFault → Type 0
TooDeepFor pairs place e = (place ≡ length pairs) × (e ≡ fault_at 0 TooDeep)
    × (named : List (List ℕ × Datum)) × (map pair_there pairs ≡ named_there named)
    × (32 < table_depth (pairs_of named))

abbrev pub NotTableOf : List Pair → WriteFault → Type 0
NotTableOf pairs UnknownKind = ⊥
NotTableOf pairs (Misfit place) = AtPair place pairs (λ p. fits_pair p ≡ false)
NotTableOf pairs (Inside place e) = AtPair place pairs (λ p. FaultInside p.value e) ⊎ TooDeepFor pairs place e
NotTableOf pairs Room = ⊥
NotTableOf pairs TooLong = ⊥
NotTableOf pairs OutOfMemory = Unit {0}

-- a count in the table is too long
abbrev pub LongTable : Pairs → Type 0
LongTable table = CountsFit (table_of table) → ⊥

abbrev pub WritesTable : List Pair → List ℕ → Result ℕ WriteFault → List ℕ → Type 0
WritesTable pairs old written new =
    Writes (λ octets. (table : Pairs) × IsTable pairs table × (octets ≡ plain_table table))
    ((table : Pairs) × IsTable pairs table × LongTable table) (NotTableOf pairs) old written new

-- and what came of it is told
abbrev pub TellsTable : List Pair → (old : List ℕ) → (status : ℕ) → Written → (new : List ℕ) → Type 0
TellsTable pairs old status out new =
    (written : Result ℕ WriteFault) × WritesTable pairs old written new × ToldWrite written status out
