-- Checking a method: what is read of it is not kept, only where its fields end.
use Rattle.std.specs.Prelude.{ℕ, zero, suc, ◌<◌, get_or, List, [], ◌∷◌, Result, Ok, Err}
use Rattle.amqp_value.specs.Reading.{◌>>=◌}
use Rattle.amqp_method.specs.Arguments.{Call}
use Rattle.amqp_method.specs.Methods.{FieldRow}
use Rattle.amqp_method.specs.Reading.{Read, Reader, read_number, short_string_at, long_string_at, field_table_at}
use Rattle.amqp_method.specs.declared.faults.MethodFault.{MethodFault}
use Rattle.amqp_method.specs.declared.fields.FieldKind.{FieldKind}
use Rattle.amqp_method.specs.declared.fields.FieldKind.TheVariants.{Bit, Octet, Short, Long, LongLong, ShortStr, LongStr, Table}
use Rattle.amqp_method.specs.declared.kinds.Kind.{Kind}

-- octets are numbers below 256
abbrev pub AreBelow256 : List ℕ → Type 0
AreBelow256 octets = (i : ℕ) → get_or octets i 0 < 256

-- the kind of the method that is read
abbrev pub kind_read : Result Call MethodFault → Result Kind MethodFault
kind_read (Ok c) = Ok c.kind
kind_read (Err e) = Err e

-- how many bits are left after a bit, and the octets after it
abbrev pub past_bit : ℕ → Reader ℕ
past_bit zero end octets = read_number 1 end octets >>= λ x. Ok (7, x.1)
past_bit (suc left) end octets = Ok (left, octets)

-- no bits are left after a field that is no bit
abbrev past_run : {X : Type 0} → Read X → Read ℕ
past_run read = read >>= λ x. Ok (0, x.1)

-- how many bits are left after a field, and the octets after it
unfoldable pub past_field : FieldKind → ℕ → Reader ℕ
past_field Bit left end octets = past_bit left end octets
past_field Octet left end octets = past_run (read_number 1 end octets)
past_field Short left end octets = past_run (read_number 2 end octets)
past_field Long left end octets = past_run (read_number 4 end octets)
past_field LongLong left end octets = past_run (read_number 8 end octets)
past_field ShortStr left end octets = past_run (short_string_at end octets)
past_field LongStr left end octets = past_run (long_string_at end octets)
past_field Table left end octets = past_run (field_table_at end octets)

-- the octets after the fields
unfoldable pub past_fields : List FieldRow → ℕ → ℕ → List ℕ → Result (List ℕ) MethodFault
past_fields [] left end octets = Ok octets
past_fields (f ∷ fields) left end octets = past_field f.kind left end octets >>= λ x. past_fields fields x.0 end x.1
