-- What is told of a write, and which values can be written.
use Rattle.std.specs.Prelude.{◌≡◌, ℕ, zero, suc, ◌+◌, ◌/◌, ◌%◌, ◌<◌, ◌≤◌, List, []}
use Rattle.std.specs.Prelude.{◌∷◌, length, map, take, drop, Bool, true, false, Option, Some, None, Result, Ok}
use Rattle.std.specs.Prelude.{Err, ◌⊎◌, if◌then◌else◌, nat_eq, nat_lt}
use Rattle.amqp_value.specs.Reading.{table_at}
use Rattle.amqp_value.specs.Values.{Pairs}
use Rattle.amqp_value.specs.declared.fault.ValueFault.{ValueFault}
use Rattle.amqp_method.specs.Arguments.{Argument, Call, call, wanted, wanted_kind, Fits}
use Rattle.amqp_method.specs.Kinds.{fields_of, kind_with}
use Rattle.amqp_method.specs.Plain.{plain_method, CountsAllFit}
use Rattle.amqp_method.specs.declared.fields.FieldKind.{FieldKind}
use Rattle.amqp_method.specs.declared.fields.FieldKind.TheVariants as kinds
use Rattle.amqp_method.specs.declared.kinds.Kind.{Kind}
use Rattle.amqp_calls.specs.CodecStatuses.{value_status}
use Rattle.amqp_calls.specs.Values.{argument_there, all_there}
use Rattle.amqp_calls.specs.declared.codec.owned.ArgFault.{ArgFault}
use Rattle.amqp_calls.specs.declared.codec.owned.ArgFault.TheVariants as arg
use Rattle.amqp_calls.specs.declared.codec.values.Value.{Value}
use Rattle.amqp_calls.specs.declared.codec.writing.WriteFault.{WriteFault}
use Rattle.amqp_calls.specs.declared.codec.writing.WriteFault.TheVariants.{UnknownKind, Misfit, Inside, Room, TooLong}
use Rattle.amqp_calls.specs.declared.codec.writing.WriteFault.TheVariants.{OutOfMemory}
use Rattle.amqp_calls.specs.declared.codec.writing.Written.{Written}

-- the status of an answer, and what stands beside it
abbrev pub ToldWrite : Result ℕ WriteFault → ℕ → Written → Type 0
ToldWrite (Ok n) status out = (status ≡ 0) × (out.length ≡ n)
ToldWrite (Err UnknownKind) status out = status ≡ 201
ToldWrite (Err (Misfit place)) status out = (status ≡ 9) × (out.value ≡ place)
ToldWrite (Err (Inside place fault)) status out =
    (status ≡ value_status fault.kind) × (out.value ≡ place) × (out.at ≡ fault.at)
ToldWrite (Err Room) status out = status ≡ 7
ToldWrite (Err TooLong) status out = status ≡ 306
ToldWrite (Err OutOfMemory) status out = status ≡ 4

-- octets are put at the start of the room, and what is behind them stays
abbrev pub PutInto : (octets old : List ℕ) → (n : ℕ) → (new : List ℕ) → Type 0
PutInto octets old n new = (n ≡ length octets) × (take n new ≡ octets) × (drop n new ≡ drop n old)

-- ---- one value

-- what is read is all of so many octets
abbrev is_whole : Result (Pairs × ℕ) ValueFault → ℕ → Bool
is_whole (Ok x) size = nat_eq x.1 size
is_whole (Err e) size = false

-- the octets are those of a table, all of them
abbrev pub is_table : List ℕ → Bool
is_table octets = is_whole (table_at octets) (length octets)

-- a value is one for a field of its kind: a number or a count fits, and a table's octets are all of a table
abbrev pub fits_field : Value → Bool
fits_field v =
    if nat_eq v.kind 1 then true
    else (if nat_eq v.kind 2 then nat_lt v.number 256
    else (if nat_eq v.kind 3 then nat_lt v.number 65536
    else (if nat_eq v.kind 4 then nat_lt v.number 4294967296
    else (if nat_eq v.kind 5 then true
    else (if nat_eq v.kind 6 then nat_lt (length v.octets.now) 256
    else (if nat_eq v.kind 7 then nat_lt (length v.octets.now) 4294967296
    else (if nat_eq v.kind 8 then is_table v.octets.now
    else false)))))))

-- the octets aren't a table
abbrev pub NotTable : List ℕ → ArgFault → Type 0
NotTable octets arg.Misfit = is_table octets ≡ false
NotTable octets (arg.Inside e) = table_at octets ≡ Err e
NotTable octets arg.OutOfMemory = Unit {0}

-- there are too many octets
abbrev pub NotCounted : ℕ → List ℕ → ArgFault → Type 0
NotCounted limit octets arg.Misfit = nat_lt (length octets) limit ≡ false
NotCounted limit octets (arg.Inside e) = ⊥
NotCounted limit octets arg.OutOfMemory = Unit {0}

-- the value is to be a table, and its octets have this fault
abbrev pub TableFault : Value → ValueFault → Type 0
TableFault v e = (v.kind ≡ 8) × (table_at v.octets.now ≡ Err e)

-- the value isn't one for any field
abbrev pub NotOwned : Value → ArgFault → Type 0
NotOwned v arg.Misfit = fits_field v ≡ false
NotOwned v (arg.Inside e) = TableFault v e
NotOwned v arg.OutOfMemory = Unit {0}

-- ---- values, each at its place

-- what holds of the value at a place
abbrev pub At : ℕ → List Value → (Value → Type 0) → Type 0
At place [] P = ⊥
At zero (v ∷ values) P = P v
At (suc n) (v ∷ values) P = At n values P

abbrev pub fault_of : ℕ → ArgFault → WriteFault
fault_of place arg.Misfit = Misfit place
fault_of place (arg.Inside e) = Inside place e
fault_of place arg.OutOfMemory = OutOfMemory

-- a value among these isn't one for any field
abbrev pub NotAllOwned : List Value → WriteFault → Type 0
NotAllOwned values UnknownKind = ⊥
NotAllOwned values (Misfit place) = At place values (λ v. fits_field v ≡ false)
NotAllOwned values (Inside place e) = At place values (λ v. TableFault v e)
NotAllOwned values Room = ⊥
NotAllOwned values TooLong = ⊥
NotAllOwned values OutOfMemory = Unit {0}

-- ---- a method

-- the kind whose class id is in the upper 16 bits and whose method id is in the lower ones
abbrev pub kind_numbered : ℕ → Option Kind
kind_numbered number = kind_with (number / 65536) (number % 65536)

abbrev pub field_number : FieldKind → ℕ
field_number kinds.Bit = 1
field_number kinds.Octet = 2
field_number kinds.Short = 3
field_number kinds.Long = 4
field_number kinds.LongLong = 5
field_number kinds.ShortStr = 6
field_number kinds.LongStr = 7
field_number kinds.Table = 8

-- the first place at which the values aren't of these kinds: one is of another kind, or there is one too few or too
-- many
abbrev pub first_unlike : List FieldKind → List Value → ℕ
first_unlike [] values = 0
first_unlike (kind ∷ kinds) [] = 0
first_unlike (kind ∷ kinds) (v ∷ values) =
    if nat_eq v.kind (field_number kind) then suc (first_unlike kinds values) else 0

-- the first place from this one on at which the values aren't of these kinds
abbrev unlike_from : List FieldKind → (place : ℕ) → List Value → ℕ
unlike_from kinds place values = place + first_unlike kinds (drop place values)

-- from a place on, the first of the values is that of the field, and others begin at the next place; or it is of
-- another kind, or there is none
abbrev pub PastValue : Bool → FieldKind → List FieldKind → List Value → ℕ → Option ℕ → Type 0
PastValue reserved kind kinds values place (Some next) =
    (next ≤ length values) × (place ≤ next)
    × (unlike_from (wanted_kind reserved kind kinds) place values ≡ unlike_from kinds next values)
PastValue reserved kind kinds values place None =
    first_unlike (wanted_kind reserved kind kinds) (drop place values) ≡ 0

-- the values are the arguments of this method
abbrev pub IsMethod : ℕ → List Value → Call → Type 0
IsMethod number values c =
    (kind_numbered number ≡ Some c.kind) × (map argument_there values ≡ all_there c.args) × Fits c

-- the values are of other kinds than the method's fields
abbrev Unlike : ℕ → List Value → ℕ → Type 0
Unlike number values place =
    (kind : Kind) × (kind_numbered number ≡ Some kind) × (place ≡ first_unlike (wanted (fields_of kind)) values)
    × ((args : List Argument) → map argument_there values ≡ all_there args → Fits (call kind args) → ⊥)

-- why there is no such method
abbrev pub NotMethod : ℕ → List Value → WriteFault → Type 0
NotMethod number values UnknownKind = kind_numbered number ≡ None
NotMethod number values (Misfit place) = At place values (λ v. fits_field v ≡ false) ⊎ Unlike number values place
NotMethod number values (Inside place e) = At place values (λ v. TableFault v e)
NotMethod number values Room = ⊥
NotMethod number values TooLong = ⊥
NotMethod number values OutOfMemory = Unit {0}

-- why a method isn't written
abbrev pub NotEncoded : Call → WriteFault → Type 0
NotEncoded c UnknownKind = ⊥
NotEncoded c (Misfit place) = ⊥
NotEncoded c (Inside place e) = ⊥
NotEncoded c Room = ⊥
NotEncoded c TooLong = CountsAllFit c.args → ⊥
NotEncoded c OutOfMemory = Unit {0}

-- The method is written at the start of the room, and nothing behind it is changed; or the room is as it was.
abbrev pub WritesMethod : ℕ → List Value → List ℕ → Result ℕ WriteFault → List ℕ → Type 0
WritesMethod number values old (Ok n) new = (c : Call) × IsMethod number values c × (n ≡ length (plain_method c))
    × (take n new ≡ plain_method c) × (drop n new ≡ drop n old)
WritesMethod number values old (Err Room) new =
    (new ≡ old) × (c : Call) × IsMethod number values c × (length old < length (plain_method c))
WritesMethod number values old (Err TooLong) new =
    (new ≡ old) × (c : Call) × IsMethod number values c × (CountsAllFit c.args → ⊥)
WritesMethod number values old (Err UnknownKind) new = (new ≡ old) × NotMethod number values UnknownKind
WritesMethod number values old (Err (Misfit place)) new = (new ≡ old) × NotMethod number values (Misfit place)
WritesMethod number values old (Err (Inside place e)) new = (new ≡ old) × NotMethod number values (Inside place e)
WritesMethod number values old (Err OutOfMemory) new = new ≡ old

-- ---- anything that octets encode

-- The octets are written at the start of the room, and nothing behind them is changed; or the room is as it was, and it
-- has too few octets, a count in what was to be written is too long, or nothing could be made of the values.
abbrev pub Writes : (List ℕ → Type 0) → Type 0 → (WriteFault → Type 0) → List ℕ
    → Result ℕ WriteFault → List ℕ → Type 0
Writes Encode Long Not old (Ok n) new =
    (octets : List ℕ) × Encode octets × (n ≡ length octets) × (take n new ≡ octets)
    × (drop n new ≡ drop n old)
Writes Encode Long Not old (Err Room) new =
    (new ≡ old) × (octets : List ℕ) × Encode octets × (length old < length octets)
Writes Encode Long Not old (Err TooLong) new = (new ≡ old) × Long
Writes Encode Long Not old (Err UnknownKind) new = (new ≡ old) × Not UnknownKind
Writes Encode Long Not old (Err (Misfit place)) new = (new ≡ old) × Not (Misfit place)
Writes Encode Long Not old (Err (Inside place e)) new = (new ≡ old) × Not (Inside place e)
Writes Encode Long Not old (Err OutOfMemory) new = new ≡ old

-- why octets aren't made of what is to be written
abbrev pub NotMade : Type 0 → WriteFault → Type 0
NotMade Long UnknownKind = ⊥
NotMade Long (Misfit place) = ⊥
NotMade Long (Inside place e) = ⊥
NotMade Long Room = ⊥
NotMade Long TooLong = Long
NotMade Long OutOfMemory = Unit {0}

-- and what came of it is told
abbrev pub TellsMethod : ℕ → List Value → (old : List ℕ) → (status : ℕ) → Written → (new : List ℕ) → Type 0
TellsMethod number values old status out new =
    (written : Result ℕ WriteFault) × WritesMethod number values old written new × ToldWrite written status out
