-- A fault that is told of a method is that of the first field that can't be read, and no other is told.
use Rattle.std.proofs.Common.{◌≡◌, ℕ, ◌+◌, ◌<◌, List, [], ◌∷◌, ◌++◌, length, map, Option, Some, None, Result, Ok, Err, inl, inr, refl, sym, ap, subst, ◌∙◌, append_assoc, arith, length-append}
use Rattle.std.specs.Prelude.{IfErr, ◌⊎◌}
use Rattle.byteorder.specs.Numbers.{length-bytes_high_first}
use Rattle.amqp_value.proofs.Numbers.{IsBytes}
use Rattle.amqp_value.specs.Fields.{EncodesNumber}
use Rattle.amqp_value.specs.declared.fault.ValueFaultKind.TheVariants.{Ends}
use Rattle.amqp_method.specs.Arguments.{Argument, kind_of, kept, Call, call}
use Rattle.amqp_method.specs.Faults.{fault_at, out_of_memory}
use Rattle.amqp_method.specs.FirstFault.{left_after, FaultInField, FirstFaultOfMethod, class_ends, id_ends, unknown, in_argument, method_trailing}
use Rattle.amqp_method.specs.Kinds.{HasIds, kind_with, fields_of}
use Rattle.amqp_method.specs.Methods.{FieldRow, row}
use Rattle.amqp_method.specs.Reading.{Gives, Bits, no_bits, read_number, field_at, args_at, whole, call_at, method_at}
use Rattle.amqp_method.specs.Encoding.{parts_of}
use Rattle.amqp_method.specs.declared.faults.MethodFault.{MethodFault}
use Rattle.amqp_method.specs.declared.faults.MethodFaultKind.{MethodFaultKind}
use Rattle.amqp_method.specs.declared.faults.MethodFaultKind.TheVariants.{Value, Trailing}
use Rattle.amqp_method.specs.declared.kinds.Kind.{Kind}
use Rattle.amqp_method.proofs.ArgsLemmas.{kinds_of, field_at-takes, field_at-again, args_at-takes, args_at-again}
use Rattle.amqp_method.proofs.FieldFaults.{err_is, bind_err, no_err, place, read_number-err, read_number-fails, field_at-err, field_at-fails, field_at-left}
use Rattle.amqp_method.proofs.FieldLemmas.{read_number-takes, read_number-again}
use Rattle.amqp_method.proofs.KindLemmas.{kind_with-named, kind_with-own}
use Rattle.amqp_method.proofs.RunLemmas.{EncodesOn, on_parts, off_parts}

-- ---- places

pub number_long : (n number : ℕ) (octets : List ℕ) → EncodesNumber n number octets → length octets ≡ n
number_long n number octets s = ap length s.octets_are ∙ length-bytes_high_first n number

-- after these octets
pub place_after : (octets prefix rest : List ℕ) → octets ≡ prefix ++ rest → place (length octets) rest ≡ length prefix
place_after octets prefix rest is = let whole : length octets ≡ length prefix + length rest = ap length is ∙ length-append prefix rest in omega arith

pub place_second : (octets first second rest : List ℕ) → octets ≡ first ++ (second ++ rest) → place (length octets) rest ≡ length first + length second
place_second octets first second rest is =
    let whole : length octets ≡ length first + length (second ++ rest) = ap length is ∙ length-append first (second ++ rest) in
    let parts = length-append second rest in
    omega arith

pub fault_place : (at end : ℕ) (octets : List ℕ) (kind : MethodFaultKind) → place end octets ≡ at → fault_at (place end octets) kind ≡ fault_at at kind
fault_place at end octets kind is = ap (λ p. fault_at p kind) is

-- ---- arguments

-- whole values for the fields at the start, of which the first bits are those left of an octet, and then a field at fault
record FailsIn (fields : List FieldRow) (bits : Bits) (end : ℕ) (octets : List ℕ) (e : MethodFault) : Type 0 where
  before : List FieldRow
  here : FieldRow
  after : List FieldRow
  values : List Argument
  prefix : List ℕ
  rest : List ℕ
  fields_are : fields ≡ before ++ (here ∷ after)
  kinds_are : map kind_of values ≡ kinds_of before
  octets_are : octets ≡ prefix ++ rest
  encoded : EncodesOn bits.left bits.packed (parts_of values) prefix
  fault_is : FaultInField here.kind (left_after before bits.left) (place end rest) rest e

args_at-err : (fields : List FieldRow) (bits : Bits) (end : ℕ) (octets : List ℕ) (e : MethodFault) → IsBytes octets → args_at fields bits end octets ≡ Err e → FailsIn fields bits end octets e
unfolding args_at
args_at-err [] bits end octets e fits h = no_err _ e h
args_at-err (f ∷ fields) bits end octets e fits h =
    elim (bind_err (field_at f.kind bits end octets) _ e h) [
      | inl is ↦ record {
        before = [];
        here = f;
        after = fields;
        values = [];
        prefix = [];
        rest = octets;
        fields_are = refl;
        kinds_are = refl;
        octets_are = refl;
        encoded = refl;
        fault_is = field_at-err f.kind bits end octets e fits is;
      }
      | inr b ↦ (
          let step = (field_at-takes f.kind bits end octets b.0 fits b.1).takes in
          elim (bind_err (args_at fields b.0.0.1 end b.0.1) _ e b.2) [
            | inl later ↦ (
                let t = args_at-err fields b.0.0.1 end b.0.1 e step.after_fits later in
                let all = step.encoded t.values t.prefix t.rest t.octets_are t.encoded in
                record {
                  before = f ∷ t.before;
                  here = t.here;
                  after = t.after;
                  values = b.0.0.0 ∷ t.values;
                  prefix = all.0;
                  rest = t.rest;
                  fields_are = ap (λ (o : List FieldRow). f ∷ o) t.fields_are;
                  kinds_are = rw (step.kind_is, t.kinds_are) refl;
                  octets_are = all.1;
                  encoded = all.2;
                  fault_is = subst (λ n. FaultInField t.here.kind (left_after t.before n) (place end t.rest) t.rest e) (field_at-left f.kind bits end octets b.0 b.1) t.fault_is;
                })
            | inr none ↦ no_err _ e none.2
          ])
    ]

args_at-fails : (before : List FieldRow) (here : FieldRow) (after : List FieldRow) (values : List Argument) (bits : Bits) (end : ℕ) (prefix rest : List ℕ) (e : MethodFault)
    → map kind_of values ≡ kinds_of before → EncodesOn bits.left bits.packed (parts_of values) prefix → FaultInField here.kind (left_after before bits.left) (place end rest) rest e
    → args_at (before ++ (here ∷ after)) bits end (prefix ++ rest) ≡ Err e
unfolding args_at
args_at-fails [] here after [] bits end prefix rest e kinds encoded fault = rw (encoded, field_at-fails here.kind bits end rest e fault) refl
args_at-fails [] here after (value ∷ values) bits end prefix rest e kinds encoded fault = absurd cc
args_at-fails (f ∷ before) here after [] bits end prefix rest e kinds encoded fault = absurd cc
args_at-fails (f ∷ before) here after (value ∷ values) bits end prefix rest e kinds encoded fault =
    let r = field_at-again value values bits prefix encoded in
    let first : kind_of value ≡ f.kind = cc in
    let others : map kind_of values ≡ kinds_of before = cc in
    let is : field_at f.kind bits end (prefix ++ rest) ≡ Ok ((value, r.others), r.rest ++ rest) = rw (← first) (r.reads end rest) in
    let left = field_at-left f.kind bits end (prefix ++ rest) ((value, r.others), r.rest ++ rest) is in
    let later = subst (λ n. FaultInField here.kind (left_after before n) (place end rest) rest e) (sym left) fault in
    let inside = args_at-fails before here after values r.others end r.rest rest e others r.goes_on later in
    rw (is, inside) refl

-- ---- nothing after

pub whole-err : {X : Type 0} (end : ℕ) (x : X) (octets : List ℕ) (e : MethodFault) → whole end x octets ≡ Err e → (0 < length octets) × (e ≡ fault_at (place end octets) Trailing)
whole-err end x [] e h = no_err _ e h
whole-err {X = X} end x (first ∷ others) e h = (omega arith, sym (err_is {A = X} _ e h))

pub whole-fails : {X : Type 0} (end : ℕ) (x : X) (octets : List ℕ) → 0 < length octets → whole end x octets ≡ Err (fault_at (place end octets) Trailing)
whole-fails end x [] long = absurd (omega arith)
whole-fails end x (first ∷ others) long = refl

-- ---- methods

args_told : (kind : Kind) (octets first second rest : List ℕ) (e : MethodFault) → octets ≡ first ++ (second ++ rest) → EncodesNumber 2 (row kind).class first → EncodesNumber 2 (row kind).id second
    → FailsIn (fields_of kind) no_bits (length octets) rest e → FirstFaultOfMethod octets e
args_told kind octets first second rest e is class_is id_is t =
    let class_long = number_long 2 _ first class_is in
    let id_long = number_long 2 _ second id_is in
    let whole = place_second octets first second rest is in
    let beyond : length rest ≡ length t.prefix + length t.rest = ap length t.octets_are ∙ length-append t.prefix t.rest in
    let total : length octets ≡ length first + length (second ++ rest) = ap length is ∙ length-append first (second ++ rest) in
    let parts = length-append second rest in
    let at : place (length octets) t.rest ≡ 4 + length t.prefix = omega arith in
    in_argument kind first second rest is class_is id_is (record {
      before = t.before;
      here = t.here;
      after = t.after;
      values = t.values;
      prefix = t.prefix;
      rest = t.rest;
      fields_are = t.fields_are;
      kinds_are = t.kinds_are;
      octets_are = t.octets_are;
      encoded = off_parts 0 (parts_of t.values) t.prefix t.encoded;
      fault_is = subst (λ p. FaultInField t.here.kind (left_after t.before 0) p t.rest e) at t.fault_is;
    })

none_not_some : (kind : Kind) → None ≡ Some kind → ⊥
none_not_some kind h = cc

call_told : (class id : ℕ) (octets first second rest : List ℕ) (found : Option Kind) (e : MethodFault) → octets ≡ first ++ (second ++ rest) → EncodesNumber 2 class first → EncodesNumber 2 id second → IsBytes rest
    → kind_with class id ≡ found → call_at (length octets) rest found ≡ Err e → FirstFaultOfMethod octets e
call_told class id octets first second rest None e is class_is id_is fits found h =
    unknown class id first second rest is class_is id_is
    (λ kind named. none_not_some kind (sym found ∙ rw (← named.class_is, ← named.id_is) (kind_with-own kind)))
    (sym (err_is {A = Call} _ e h))
call_told class id octets first second rest (Some kind) e is class_is id_is fits found h =
    let named = kind_with-named class id kind found in
    let class_own = subst (λ n. EncodesNumber 2 n first) (sym named.class_is) class_is in
    let id_own = subst (λ n. EncodesNumber 2 n second) (sym named.id_is) id_is in
    elim (bind_err (args_at (fields_of kind) no_bits (length octets) rest) _ e h) [
      | inl failed ↦ args_told kind octets first second rest e is class_own id_own (args_at-err (fields_of kind) no_bits (length octets) rest e fits failed)
      | inr b ↦ (
          let t = args_at-takes (fields_of kind) no_bits (length octets) rest b.0 fits b.1 in
          let w = whole-err (length octets) (call kind b.0.0) b.0.1 e b.2 in
          let prefix = first ++ (second ++ t.prefix) in
          let parts : octets ≡ prefix ++ b.0.1 = is ∙ ap (λ (o : List ℕ). first ++ (second ++ o)) t.parts ∙ simp append_assoc in
          method_trailing (call kind b.0.0) prefix b.0.1 parts
          (record {
            class = first;
            id = second;
            arguments = t.prefix;
            octets_are = refl;
            class_is = class_own;
            id_is = id_own;
            args = record { values = t.values; kinds_are = t.kinds_are; args_are = t.args_are; encoded = off_parts 0 (parts_of t.values) t.prefix t.encoded };
          })
          w.0 (w.1 ∙ fault_place (length prefix) (length octets) b.0.1 Trailing (place_after octets prefix b.0.1 parts)))
    ]

pub method_at-told : (octets : List ℕ) (e : MethodFault) → IsBytes octets → method_at octets ≡ Err e → FirstFaultOfMethod octets e
unfolding method_at
method_at-told octets e fits h =
    let end = length octets in
    elim (bind_err (read_number 2 end octets) _ e h) [
      | inl is ↦ (let n = read_number-err 2 end octets e is in class_ends n.0 (n.1 ∙ fault_place 0 end octets (Value Ends) (place_after octets [] octets refl)))
      | inr a ↦ (
          let class = read_number-takes 2 end octets a.0 fits a.1 in
          elim (bind_err (read_number 2 end a.0.1) _ e a.2) [
            | inl is ↦ (
                let n = read_number-err 2 end a.0.1 e is in
                id_ends a.0.0 class.prefix a.0.1 class.parts class.encodes n.0
                (n.1 ∙ fault_place 2 end a.0.1 (Value Ends) (place_after octets class.prefix a.0.1 class.parts ∙ number_long 2 _ class.prefix class.encodes)))
            | inr b ↦ (
                let id = read_number-takes 2 end a.0.1 b.0 class.after_fits b.1 in
                call_told a.0.0 b.0.0 octets class.prefix id.prefix b.0.1 (kind_with a.0.0 b.0.0) e (class.parts ∙ ap (λ (o : List ℕ). class.prefix ++ o) id.parts) class.encodes id.encodes id.after_fits refl b.2)
          ])
    ]

-- ---- no other is told

kind_with-none : (class id : ℕ) (found : Option Kind) → kind_with class id ≡ found → ((kind : Kind) → HasIds class id kind → ⊥) → found ≡ None
kind_with-none class id None is none = refl
kind_with-none class id (Some kind) is none = absurd (none kind (kind_with-named class id kind is))

-- two ids at the start
ids_read : (class id : ℕ) (octets first second rest : List ℕ) → octets ≡ first ++ (second ++ rest) → EncodesNumber 2 class first → EncodesNumber 2 id second
    → method_at octets ≡ call_at (length octets) rest (kind_with class id)
unfolding method_at
ids_read class id octets first second rest is class_is id_is =
    let end = length octets in
    let one : read_number 2 end octets ≡ Ok (class, second ++ rest) = ap (read_number 2 end) is ∙ read_number-again 2 end class first (second ++ rest) class_is in
    let two = read_number-again 2 end id second rest id_is in
    rw (one, two) refl

pub first_fault_of_method : (octets : List ℕ) (e : MethodFault) → FirstFaultOfMethod octets e → method_at octets ≡ Err e
unfolding method_at
first_fault_of_method octets e (class_ends short is) =
    let end = length octets in
    rw (read_number-fails 2 end octets short) (ap (λ d. Err d) (fault_place 0 end octets (Value Ends) (place_after octets [] octets refl) ∙ sym is))
first_fault_of_method octets e (id_ends class first rest parts class_is short is) =
    let end = length octets in
    let one : read_number 2 end octets ≡ Ok (class, rest) = ap (read_number 2 end) parts ∙ read_number-again 2 end class first rest class_is in
    rw (one, read_number-fails 2 end rest short)
    (ap (λ d. Err d) (fault_place 2 end rest (Value Ends) (place_after octets first rest parts ∙ number_long 2 class first class_is) ∙ sym is))
first_fault_of_method octets e (unknown class id first second rest parts class_is id_is none is) =
    ids_read class id octets first second rest parts class_is id_is
    ∙ rw (kind_with-none class id (kind_with class id) refl none) (ap (λ d. Err d) (sym is))
first_fault_of_method octets e (in_argument kind first second rest parts class_is id_is t) =
    let end = length octets in
    let class_long = number_long 2 _ first class_is in
    let id_long = number_long 2 _ second id_is in
    let beyond : length rest ≡ length t.prefix + length t.rest = ap length t.octets_are ∙ length-append t.prefix t.rest in
    let total : length octets ≡ length first + length (second ++ rest) = ap length parts ∙ length-append first (second ++ rest) in
    let both = length-append second rest in
    let at : 4 + length t.prefix ≡ place end t.rest = omega arith in
    let fault = subst (λ p. FaultInField t.here.kind (left_after t.before 0) p t.rest e) at t.fault_is in
    let fails : args_at (fields_of kind) no_bits end rest ≡ Err e =
    ap (λ (o : List ℕ). args_at (fields_of kind) no_bits end o) t.octets_are ∙ ap (λ (f : List FieldRow). args_at f no_bits end (t.prefix ++ t.rest)) t.fields_are
    ∙ args_at-fails t.before t.here t.after t.values no_bits end t.prefix t.rest e t.kinds_are (on_parts 0 (parts_of t.values) t.prefix t.encoded) fault in
    ids_read (row kind).class (row kind).id octets first second rest parts class_is id_is ∙ rw (kind_with-own kind, fails) refl
first_fault_of_method octets e (method_trailing c prefix rest parts s long is) =
    let end = length octets in
    let all : octets ≡ s.class ++ (s.id ++ (s.arguments ++ rest)) = parts ∙ ap (λ (o : List ℕ). o ++ rest) s.octets_are ∙ simp append_assoc in
    let args = args_at-again (fields_of c.kind) s.args.values no_bits end s.arguments rest s.args.kinds_are (on_parts 0 (parts_of s.args.values) s.arguments s.args.encoded) in
    ids_read (row c.kind).class (row c.kind).id octets s.class s.id (s.arguments ++ rest) all s.class_is s.id_is
    ∙ rw (kind_with-own c.kind, args, whole-fails end (call c.kind (kept (fields_of c.kind) s.args.values)) rest long)
    (ap (λ d. Err d) (fault_place (length prefix) end rest Trailing (place_after octets prefix rest parts) ∙ sym is))

-- ---- as clauses of a call that gives what reading gives

pub fault : {X : Type 0} (view : X → Call) (octets : List ℕ) (r : Result X MethodFault) → IsBytes octets → Gives view r (method_at octets) → IfErr r (λ e. (e ≡ out_of_memory) ⊎ FirstFaultOfMethod octets e)
fault view octets (Ok x) fits given = tt
fault view octets (Err e) fits (inl memory) = inl memory
fault view octets (Err e) fits (inr is) = inr (method_at-told octets e fits is)
