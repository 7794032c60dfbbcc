-- Checking a method finds what reading it finds.
use Rattle.std.proofs.Common.{◌≡◌, ℕ, zero, suc, ◌+◌, ◌-◌, ◌<◌, ◌≤◌, List, [], ◌∷◌, length, map, drop, get_or, Bool, Some, Ok, Err, Result, refl, sym, ap, ◌∙◌}
use Rattle.std.specs.Prelude.{IfOk, IfErr}
use Rattle.std.proofs.lemmas.List.{drop_all}
use Rattle.amqp_value.specs.Checking.{measured}
use Rattle.amqp_value.specs.Reading.{◌>>=◌, table_at}
use Rattle.amqp_value.specs.Values.{Pairs}
use Rattle.amqp_value.specs.declared.fault.ValueFault.{ValueFault}
use Rattle.amqp_method.specs.Faults.{in_table}
use Rattle.amqp_method.specs.Arguments.{Argument, octet, short, long, long_long, short_string, long_string, table, Call, call, keep}
use Rattle.amqp_method.specs.Checking.{kind_read, past_bit, past_field, past_fields}
use Rattle.amqp_value.proofs.Numbers.{IsBytes}
use Rattle.amqp_method.specs.Encoding.{EncodesMethod}
use Rattle.amqp_method.specs.FirstFault.{FirstFaultOfMethod}
use Rattle.amqp_method.specs.Kinds.{fields_of}
use Rattle.amqp_method.specs.Methods.{FieldRow, Row as MethodRow, row}
use Rattle.amqp_method.specs.Reading.{Read, Equals, Bits, no_bits, read_number, short_string_at, long_string_at, after_table, field_table_at, field_at, next_bit, read_bit, args_at, rest_of, nothing_after, whole, call_at, method_at}
use Rattle.amqp_method.specs.Rows.{field_view, row_view}
use Rattle.amqp_method.specs.declared.faults.MethodFault.{MethodFault}
use Rattle.amqp_method.specs.declared.fields.Field.{Field}
use Rattle.amqp_method.specs.declared.fields.FieldKind.{FieldKind}
use Rattle.amqp_method.specs.declared.fields.FieldKind.TheVariants.{Bit, Octet, Short, Long, LongLong, ShortStr, LongStr, Table}
use Rattle.amqp_method.specs.declared.kinds.Kind.{Kind}
use Rattle.amqp_method.specs.declared.table.Row.{Row}
use Rattle.amqp_method.proofs.FieldLemmas.{same_ok}
use Rattle.amqp_method.proofs.FitLemmas.{field_here}
use Rattle.amqp_method.proofs.MethodFaults.{method_at-told, first_fault_of_method}
use Rattle.amqp_method.proofs.MethodLemmas.{method_at-takes, method_at-again, ok_not_err}

-- how many bits are left after a field, and the octets after it
abbrev pub left_and_rest : Read (Argument × Bits) → Read ℕ
left_and_rest read = read >>= λ x. Ok (x.0.1.left, x.1)

past_ends_run : {X : Type 0} (make : X → Argument) (read : Read X)
    → (read >>= λ x. Ok (0, x.1)) ≡ left_and_rest (read >>= λ x. Ok ((make x.0, no_bits), x.1))
past_ends_run make (Ok x) = refl
past_ends_run make (Err e) = refl

past_new_octet : (read : Read ℕ)
    → (read >>= λ x. Ok (7, x.1)) ≡ left_and_rest (read >>= λ x. next_bit 7 x.0 x.1)
past_new_octet (Ok x) = refl
past_new_octet (Err e) = refl

past_bit_same : (left packed end : ℕ) (octets : List ℕ) → past_bit left end octets ≡ left_and_rest (read_bit left packed end octets)
past_bit_same zero packed end octets = past_new_octet (read_number 1 end octets)
past_bit_same (suc left) packed end octets = refl

pub past_field_same : (kind : FieldKind) (bits : Bits) (end : ℕ) (octets : List ℕ) → past_field kind bits.left end octets ≡ left_and_rest (field_at kind bits end octets)
unfolding past_field field_at
past_field_same Bit bits end octets = past_bit_same bits.left bits.packed end octets
past_field_same Octet bits end octets = past_ends_run octet (read_number 1 end octets)
past_field_same Short bits end octets = past_ends_run short (read_number 2 end octets)
past_field_same Long bits end octets = past_ends_run long (read_number 4 end octets)
past_field_same LongLong bits end octets = past_ends_run long_long (read_number 8 end octets)
past_field_same ShortStr bits end octets = past_ends_run short_string (short_string_at end octets)
past_field_same LongStr bits end octets = past_ends_run long_string (long_string_at end octets)
past_field_same Table bits end octets = past_ends_run table (field_table_at end octets)

-- the octets after the arguments that are read
past_kept : (reserved : Bool) (value : Argument) (read : Read (List Argument)) → rest_of read ≡ rest_of (read >>= λ y. Ok (keep reserved value y.0, y.1))
past_kept reserved value (Ok y) = refl
past_kept reserved value (Err e) = refl

past_after : (reserved : Bool) (fields : List FieldRow) (end : ℕ) (read : Read (Argument × Bits))
    → ((bits : Bits) (octets : List ℕ) → past_fields fields bits.left end octets ≡ rest_of (args_at fields bits end octets))
    → (left_and_rest read >>= λ x. past_fields fields x.0 end x.1)
    ≡ rest_of (read >>= λ x. (args_at fields x.0.1 end x.1 >>= λ y. Ok (keep reserved x.0.0 y.0, y.1)))
past_after reserved fields end (Ok x) others = others x.0.1 x.1 ∙ past_kept reserved x.0.0 (args_at fields x.0.1 end x.1)
past_after reserved fields end (Err e) others = refl

pub past_fields_same : (fields : List FieldRow) (bits : Bits) (end : ℕ) (octets : List ℕ)
    → past_fields fields bits.left end octets ≡ rest_of (args_at fields bits end octets)
unfolding past_fields args_at
past_fields_same [] bits end octets = refl
past_fields_same (f ∷ fields) bits end octets =
    ap (λ (r : Read ℕ). r >>= λ x. past_fields fields x.0 end x.1) (past_field_same f.kind bits end octets)
    ∙ past_after f.reserved fields end (field_at f.kind bits end octets) (λ b o. past_fields_same fields b end o)

-- ---- the loop over the fields

pub past_next : (fields : List Field) (i : ℕ) (d : Field) (left end : ℕ) (octets : List ℕ) → i < length fields
    → past_fields (map field_view (drop i fields)) left end octets
    ≡ (past_field (get_or fields i d).kind left end octets >>= λ x. past_fields (map field_view (drop (i + 1) fields)) x.0 end x.1)
unfolding past_fields
past_next fields i d left end octets h = ap (λ (f : List FieldRow). past_fields f left end octets) (field_here fields i d h)

pub past_none : (fields : List Field) (i left end : ℕ) (octets : List ℕ) → length fields ≤ i → past_fields (map field_view (drop i fields)) left end octets ≡ Ok octets
unfolding past_fields
past_none fields i left end octets h = rw (drop_all i fields h) refl

-- ---- the whole

kind_of_whole : (end : ℕ) (kind : Kind) (args : List Argument) (octets : List ℕ)
    → kind_read (whole end (call kind args) octets) ≡ (nothing_after end octets >>= λ _. Ok kind)
kind_of_whole end kind args [] = refl
kind_of_whole end kind args (first ∷ others) = refl

kind_of_args : (end : ℕ) (kind : Kind) (read : Read (List Argument))
    → kind_read (read >>= λ x. whole end (call kind x.0) x.1) ≡ (rest_of read >>= λ after. (nothing_after end after >>= λ _. Ok kind))
kind_of_args end kind (Ok x) = kind_of_whole end kind x.0 x.1
kind_of_args end kind (Err e) = refl

-- the kind that is read, where the octets after the fields are known
pub kind_past : (end : ℕ) (kind : Kind) (octets : List ℕ)
    → kind_read (call_at end octets (Some kind)) ≡ (past_fields (fields_of kind) 0 end octets >>= λ after. (nothing_after end after >>= λ _. Ok kind))
kind_past end kind octets =
    kind_of_args end kind (args_at (fields_of kind) no_bits end octets)
    ∙ ap (λ (r : Result (List ℕ) MethodFault). r >>= λ after. (nothing_after end after >>= λ _. Ok kind)) (sym (past_fields_same (fields_of kind) no_bits end octets))

-- ---- as clauses of the calls that check

fields_in_row : (kind : Kind) (r : Row) → row_view r ≡ row kind → map field_view r.fields.now ≡ fields_of kind
fields_in_row kind r is = ap (λ (m : MethodRow). m.fields) is

pub args_refused : (end : ℕ) (kind : Kind) (octets : List ℕ) (r : Row) (e : MethodFault) → row_view r ≡ row kind
    → past_fields (map field_view r.fields.now) 0 end octets ≡ Err e → kind_read (call_at end octets (Some kind)) ≡ Err e
args_refused end kind octets r e is past =
    kind_past end kind octets
    ∙ ap (λ (p : Result (List ℕ) MethodFault). p >>= λ after. (nothing_after end after >>= λ _. Ok kind))
    (ap (λ (fields : List FieldRow). past_fields fields 0 end octets) (sym (fields_in_row kind r is)) ∙ past)

pub args_checked : (end : ℕ) (kind : Kind) (octets after : List ℕ) (r : Row) (ended : Result (Unit {0}) MethodFault) → row_view r ≡ row kind
    → past_fields (map field_view r.fields.now) 0 end octets ≡ Ok after → Equals (λ x. x) ended (nothing_after end after)
    → Equals (λ done. kind) ended (kind_read (call_at end octets (Some kind)))
args_checked end kind octets after r (Ok done) is past ends =
    kind_past end kind octets
    ∙ ap (λ (p : Result (List ℕ) MethodFault). p >>= λ after. (nothing_after end after >>= λ _. Ok kind))
    (ap (λ (fields : List FieldRow). past_fields fields 0 end octets) (sym (fields_in_row kind r is)) ∙ past)
    ∙ ap (λ (n : Result (Unit {0}) MethodFault). n >>= λ _. Ok kind) ends
args_checked end kind octets after r (Err e) is past ends =
    kind_past end kind octets
    ∙ ap (λ (p : Result (List ℕ) MethodFault). p >>= λ after. (nothing_after end after >>= λ _. Ok kind))
    (ap (λ (fields : List FieldRow). past_fields fields 0 end octets) (sym (fields_in_row kind r is)) ∙ past)
    ∙ ap (λ (n : Result (Unit {0}) MethodFault). n >>= λ _. Ok kind) ends

-- what is read, where its kind is known
call_of_kind : (read : Result Call MethodFault) (kind : Kind) → kind_read read ≡ Ok kind → (args : List Argument) × (read ≡ Ok (call kind args))
call_of_kind (Ok c) kind e = (c.args, ap (λ (k : Kind). Ok (call k c.args)) (same_ok c.kind kind e))
call_of_kind (Err e) kind is = absurd cc

fault_of_kind : (read : Result Call MethodFault) (e : MethodFault) → kind_read read ≡ Err e → read ≡ Err e
fault_of_kind (Ok c) e is = absurd cc
fault_of_kind (Err f) e is = cc

pub check_found : (octets : List ℕ) (r : Result Kind MethodFault) → IsBytes octets → r ≡ kind_read (method_at octets)
    → IfOk r (λ kind. (args : List Argument) × EncodesMethod (call kind args) octets)
check_found octets (Ok kind) fits is =
    let read = call_of_kind (method_at octets) kind (sym is) in
    (read.0, method_at-takes octets (call kind read.0) fits read.1)
check_found octets (Err e) fits is = tt

pub check_only : (octets : List ℕ) (r : Result Kind MethodFault) → r ≡ kind_read (method_at octets) → (c : Call) → EncodesMethod c octets → r ≡ Ok c.kind
check_only octets r is c s = is ∙ ap kind_read (method_at-again octets c s)

pub check_refused : (octets : List ℕ) (r : Result Kind MethodFault) → r ≡ kind_read (method_at octets) → IfErr r (λ e. (c : Call) → EncodesMethod c octets → ⊥)
check_refused octets (Ok kind) is = tt
check_refused octets (Err e) is = λ c s. ok_not_err c e (sym (method_at-again octets c s) ∙ fault_of_kind (method_at octets) e (sym is))

pub check_fault : (octets : List ℕ) (r : Result Kind MethodFault) → IsBytes octets → r ≡ kind_read (method_at octets) → IfErr r (λ e. FirstFaultOfMethod octets e)
check_fault octets (Ok kind) fits is = tt
check_fault octets (Err e) fits is = method_at-told octets e fits (fault_of_kind (method_at octets) e (sym is))

pub check_told : (octets : List ℕ) (r : Result Kind MethodFault) → r ≡ kind_read (method_at octets) → (e : MethodFault) → FirstFaultOfMethod octets e → r ≡ Err e
check_told octets r is e f = is ∙ ap kind_read (first_fault_of_method octets e f)

-- ---- tables

same_size : (n m : ℕ) → ◌≡◌ {A = Result ℕ ValueFault} (Ok n) (Ok m) → n ≡ m
same_size n m e = cc

past_measured : (end n : ℕ) (octets : List ℕ) (read : Result (Pairs × ℕ) ValueFault) → Ok n ≡ measured read → rest_of (after_table end octets read) ≡ Ok (drop n octets)
past_measured end n octets (Ok x) is = ap (λ (k : ℕ). Ok (drop k octets)) (sym (same_size n x.1 is))
past_measured end n octets (Err e) is = absurd cc

pub table_measured : (end n : ℕ) (octets : List ℕ) → Ok n ≡ measured (table_at octets) → rest_of (field_table_at end octets) ≡ Ok (drop n octets)
table_measured end n octets is = past_measured end n octets (table_at octets) is

faulty : (read : Result (Pairs × ℕ) ValueFault) (e : ValueFault) → Err e ≡ measured read → read ≡ Err e
faulty (Ok x) e is = absurd cc
faulty (Err f) e is = cc

pub table_is_faulty : (octets : List ℕ) (e : ValueFault) → Err e ≡ measured (table_at octets) → table_at octets ≡ Err e
table_is_faulty octets e is = faulty (table_at octets) e is

pub table_faulty : (end : ℕ) (octets : List ℕ) (e : ValueFault) → Err e ≡ measured (table_at octets) → rest_of (field_table_at end octets) ≡ Err (in_table (end - length octets) e)
table_faulty end octets e is = ap (λ (r : Result (Pairs × ℕ) ValueFault). rest_of (after_table end octets r)) (faulty (table_at octets) e is)
