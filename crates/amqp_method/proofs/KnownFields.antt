-- Arguments that are built for fields that are known.
use Rattle.std.proofs.Common.{◌≡◌, ℕ, List, [], ◌∷◌, ◌++◌, length, map, drop, Bool, Ok, Err, refl, ap, subst, sym, ◌∙◌, arith}
use Rattle.std.specs.Prelude.{IsOk}
use Rattle.amqp_method.specs.Arguments.{Argument, octet, table, short, long_long, short_string}
use Rattle.amqp_method.specs.KnownFields.{BeginsWith}
use Rattle.amqp_method.specs.MethodRefs.{values_read}
use Rattle.amqp_method.specs.Methods.{FieldRow}
use Rattle.amqp_method.specs.Reading.{Bits, field_table_at, read_bit, read_number, short_string_at, ends_run, field_at, args_at}
use Rattle.amqp_method.specs.Rows.{field_view}
use Rattle.amqp_method.specs.declared.faults.MethodFault.{MethodFault}
use Rattle.amqp_method.specs.declared.fields.Field.{Field}
use Rattle.amqp_method.specs.declared.fields.FieldKind.{FieldKind}
use Rattle.amqp_method.specs.declared.fields.FieldKind.TheVariants.{Bit, Octet, Table, Short, LongLong, ShortStr}
use Rattle.amqp_method.proofs.OwningLemmas.{all_built}
use Rattle.amqp_method.proofs.RefLemmas.{no_values, first_value, no_fault, Others}

-- there is a first field
pub begins_none : (kind : FieldKind) (reserved : Bool) (fields : List Field) → length fields ≡ 0 → BeginsWith kind reserved (map field_view fields) → ⊥
begins_none kind reserved [] none first = first
begins_none kind reserved (f ∷ fields) none first = omega arith

-- and it is of that kind
pub begins : (kind : FieldKind) (reserved : Bool) (fields : List Field) (f : Field) (others : List Field) → fields ≡ f ∷ others
    → BeginsWith kind reserved (map field_view fields) → (kind ≡ f.kind) × (reserved ≡ f.reserved)
begins kind reserved fields f others is first = subst (λ (l : List Field). BeginsWith kind reserved (map field_view l)) is first

pub others_left : (fields : List Field) (f : Field) (others after : List Field) → fields ≡ f ∷ others → after ≡ others
    → map field_view after ≡ drop 1 (map field_view fields)
others_left fields f others after is left = ap (map field_view) left ∙ ap (λ (l : List Field). drop 1 (map field_view l)) (sym is)

-- its value is read, and what is left after it
pub known_value : (kind : FieldKind) (reserved : Bool) (fields : List Field) (f : Field) (others : List Field) (bits left : Bits) (end : ℕ) (octets after : List ℕ) (value : Argument)
    → fields ≡ f ∷ others → BeginsWith kind reserved (map field_view fields) → IsOk (args_at (map field_view fields) bits end octets)
    → field_at kind bits end octets ≡ Ok ((value, left), after)
    → Others reserved value (args_at (map field_view others) left end after) (args_at (map field_view fields) bits end octets)
known_value kind reserved fields f others bits left end octets after value is first ok read =
    let b = begins kind reserved fields f others is first in
    subst (λ (r : Bool). Others r value (args_at (map field_view others) left end after) (args_at (map field_view fields) bits end octets)) (sym b.1)
    (first_value (map field_view fields) (field_view f) (map field_view others) bits left end octets after value
    (ap (map field_view) is) ok (ap (λ (k : FieldKind). field_at k bits end octets) (sym b.0) ∙ read))

pub known_fits : (kind : FieldKind) (reserved : Bool) (fields : List Field) (f : Field) (others : List Field) (bits : Bits) (end : ℕ) (octets : List ℕ) (e : MethodFault)
    → fields ≡ f ∷ others → BeginsWith kind reserved (map field_view fields) → IsOk (args_at (map field_view fields) bits end octets)
    → field_at kind bits end octets ≡ Err e → ⊥
known_fits kind reserved fields f others bits end octets e is first ok read =
    let b = begins kind reserved fields f others is first in
    no_fault (map field_view fields) (field_view f) (map field_view others) bits end octets e
    (ap (map field_view) is) ok (ap (λ (k : FieldKind). field_at k bits end octets) (sym b.0) ∙ read)

-- what a field of each kind is read by
pub short_field : (bits : Bits) (end : ℕ) (octets : List ℕ) → field_at Short bits end octets ≡ ends_run short (read_number 2 end octets)
unfolding field_at
short_field bits end octets = refl

pub octet_field : (bits : Bits) (end : ℕ) (octets : List ℕ) → field_at Octet bits end octets ≡ ends_run octet (read_number 1 end octets)
unfolding field_at
octet_field bits end octets = refl

pub table_field : (bits : Bits) (end : ℕ) (octets : List ℕ) → field_at Table bits end octets ≡ ends_run table (field_table_at end octets)
unfolding field_at
table_field bits end octets = refl

pub long_long_field : (bits : Bits) (end : ℕ) (octets : List ℕ) → field_at LongLong bits end octets ≡ ends_run long_long (read_number 8 end octets)
unfolding field_at
long_long_field bits end octets = refl

pub text_field : (bits : Bits) (end : ℕ) (octets : List ℕ) → field_at ShortStr bits end octets ≡ ends_run short_string (short_string_at end octets)
unfolding field_at
text_field bits end octets = refl

pub bit_field : (bits : Bits) (end : ℕ) (octets : List ℕ) → field_at Bit bits end octets ≡ read_bit bits.left bits.packed end octets
unfolding field_at
bit_field bits end octets = refl

-- all are built, where no field is left
pub last_built : (fields : List FieldRow) (bits : Bits) (end : ℕ) (octets : List ℕ) (built all : List Argument)
    → fields ≡ [] → built ++ values_read (args_at fields bits end octets) ≡ all → built ≡ all
last_built fields bits end octets built all none is =
    all_built built (values_read (args_at fields bits end octets)) all (no_values fields bits end octets none) is
