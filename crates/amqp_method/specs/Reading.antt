-- Reading from the prefix of octets, with the first fault that is met. `end` is the place after the octets, so the
-- first of them stands at `end - length octets`.
use Rattle.std.specs.Prelude.{◌≡◌, ℕ, zero, suc, ◌-◌, ◌/◌, ◌%◌, ◌==◌, List, [], ◌∷◌, ◌++◌, length, take, drop, Option, Some, None, Result, Ok, Err, nat_lt, if◌then◌else◌, ◌⊎◌}
use Rattle.byteorder.specs.Endian.{big_number}
use Rattle.amqp_value.specs.Reading.{◌>>=◌, table_at}
use Rattle.amqp_value.specs.Values.{Pairs}
use Rattle.amqp_value.specs.declared.fault.ValueFault.{ValueFault}
use Rattle.amqp_value.specs.declared.fault.ValueFaultKind.TheVariants.{Ends}
use Rattle.amqp_method.specs.Arguments.{Argument, bit, octet, short, long, long_long, short_string, long_string, table, keep, Call, call}
use Rattle.amqp_method.specs.Faults.{fault_at, in_table, out_of_memory}
use Rattle.amqp_method.specs.Kinds.{kind_with, fields_of}
use Rattle.amqp_method.specs.Methods.{FieldRow}
use Rattle.amqp_method.specs.declared.faults.MethodFault.{MethodFault}
use Rattle.amqp_method.specs.declared.faults.MethodFaultKind.TheVariants.{UnknownMethod, Value, Trailing}
use Rattle.amqp_method.specs.declared.fields.FieldKind.{FieldKind}
use Rattle.amqp_method.specs.declared.fields.FieldKind.TheVariants.{Bit, Octet, Short, Long, LongLong, ShortStr, LongStr, Table}
use Rattle.amqp_method.specs.declared.kinds.Kind.{Kind}

-- What a call returned, seen by view, is what reading gives, unless memory ran out.
abbrev Fails : {Y : Type 0} → MethodFault → Result Y MethodFault → Type 0
Fails e read = (e ≡ out_of_memory) ⊎ (read ≡ Err e)

abbrev pub Gives : {X Y : Type 0} → (X → Y) → Result X MethodFault → Result Y MethodFault → Type 0
Gives view (Ok x) read = read ≡ Ok (view x)
Gives view (Err e) read = Fails e read

-- What a call returned that takes no memory, seen by view, is what reading gives.
abbrev pub Equals : {X Y : Type 0} → (X → Y) → Result X MethodFault → Result Y MethodFault → Type 0
Equals view (Ok x) read = read ≡ Ok (view x)
Equals view (Err e) read = read ≡ Err e

-- what is read from the prefix, and the octets after it
abbrev pub Read : Type 0 → Type 0
Read X = Result (X × List ℕ) MethodFault

abbrev pub Reader : Type 0 → Type 0
Reader X = ℕ → List ℕ → Read X

-- the octets after what is read
abbrev pub rest_of : {X : Type 0} → Read X → Result (List ℕ) MethodFault
rest_of read = read >>= λ x. Ok x.1

-- the fault of a field that begins with the first of the octets, and has more octets than these
abbrev pub ends_at : ℕ → List ℕ → MethodFault
ends_at end octets = fault_at (end - length octets) (Value Ends)

-- a number of n octets
abbrev pub read_number : ℕ → Reader ℕ
read_number n end octets =
    if nat_lt (length octets) n then Err (ends_at end octets) else Ok (big_number n octets, drop n octets)

-- a length octet, and that many
abbrev pub short_string_at : Reader (List ℕ)
short_string_at end [] = Err (ends_at end [])
short_string_at end (n ∷ octets) =
    if nat_lt (length octets) n then Err (ends_at end (n ∷ octets)) else Ok (take n octets, drop n octets)

-- a length of four octets, and that many
abbrev pub long_string_at : Reader (List ℕ)
long_string_at end octets =
    if nat_lt (length octets) 4 then Err (ends_at end octets)
    else (if nat_lt (length octets - 4) (big_number 4 octets) then Err (ends_at end octets)
    else Ok (take (big_number 4 octets) (drop 4 octets), drop (big_number 4 octets) (drop 4 octets)))

abbrev pub after_table : ℕ → List ℕ → Result (Pairs × ℕ) ValueFault → Read Pairs
after_table end octets (Ok found) = Ok (found.0, drop found.1 octets)
after_table end octets (Err fault) = Err (in_table (end - length octets) fault)

abbrev pub field_table_at : Reader Pairs
field_table_at end octets = after_table end octets (table_at octets)

-- the bits of an octet that are still to be read: how many, and the octet without those that were
pub record Bits : Type 0 where
  pub left : ℕ
  pub packed : ℕ

abbrev pub no_bits : Bits
no_bits = record { left = 0; packed = 0 }

-- the lowest bit, and the others
abbrev pub next_bit : ℕ → ℕ → List ℕ → Result ((Argument × Bits) × List ℕ) MethodFault
next_bit left packed octets = Ok ((bit (packed % 2 == 1), record { left = left; packed = packed / 2 }), octets)

-- the next bit of a run
abbrev pub read_bit : ℕ → ℕ → Reader (Argument × Bits)
read_bit zero packed end octets = read_number 1 end octets >>= λ x. next_bit 7 x.0 x.1
read_bit (suc left) packed end octets = next_bit left packed octets

abbrev pub ends_run : {X : Type 0} → (X → Argument) → Read X → Read (Argument × Bits)
ends_run make read = read >>= λ x. Ok ((make x.0, no_bits), x.1)

-- the value of a field
unfoldable pub field_at : FieldKind → Bits → Reader (Argument × Bits)
field_at Bit bits end octets = read_bit bits.left bits.packed end octets
field_at Octet bits end octets = ends_run octet (read_number 1 end octets)
field_at Short bits end octets = ends_run short (read_number 2 end octets)
field_at Long bits end octets = ends_run long (read_number 4 end octets)
field_at LongLong bits end octets = ends_run long_long (read_number 8 end octets)
field_at ShortStr bits end octets = ends_run short_string (short_string_at end octets)
field_at LongStr bits end octets = ends_run long_string (long_string_at end octets)
field_at Table bits end octets = ends_run table (field_table_at end octets)

-- a field's value after these arguments, unless it is reserved
unfoldable pub taken_at : FieldRow → List Argument → Bits → Reader (List Argument × Bits)
taken_at f args bits end octets =
    field_at f.kind bits end octets >>= λ x. Ok ((args ++ keep f.reserved x.0.0 [], x.0.1), x.1)

-- the arguments
unfoldable pub args_at : List FieldRow → Bits → Reader (List Argument)
args_at [] bits end octets = Ok ([], octets)
args_at (f ∷ fields) bits end octets =
    field_at f.kind bits end octets >>= λ x. (args_at fields x.0.1 end x.1 >>= λ y. Ok (keep f.reserved x.0.0 y.0, y.1))

-- nothing stands after what was read
abbrev pub nothing_after : ℕ → List ℕ → Result (Unit {0}) MethodFault
nothing_after end [] = Ok tt
nothing_after end (first ∷ others) = Err (fault_at (end - length (first ∷ others)) Trailing)

abbrev pub whole : {X : Type 0} → ℕ → X → List ℕ → Result X MethodFault
whole end x octets = nothing_after end octets >>= λ _. Ok x

-- the arguments of a method, and nothing after them
abbrev pub call_at : ℕ → List ℕ → Option Kind → Result Call MethodFault
call_at end octets None = Err (fault_at 0 UnknownMethod)
call_at end octets (Some kind) =
    args_at (fields_of kind) no_bits end octets >>= λ x. whole end (call kind x.0) x.1

-- a method
unfoldable pub method_at : List ℕ → Result Call MethodFault
method_at octets = do
  class ← read_number 2 (length octets) octets
  id ← read_number 2 (length octets) class.1
  call_at (length octets) id.1 (kind_with class.0 id.0)
