-- Methods: what is read is encoded so, and what is encoded so is read.
use Rattle.std.proofs.Common.{◌≡◌, ℕ, List, [], ◌∷◌, ◌++◌, length, map, Bool, true, false, Option, Some, None, Result, Ok, Err, inl, inr, refl, sym, ap, subst, ◌∙◌}
use Rattle.std.specs.Prelude.{IfOk, IfErr, ◌⊎◌}
use Rattle.std.proofs.lemmas.List.{append-nil}
use Rattle.amqp_value.proofs.Elements.{bind_ok}
use Rattle.amqp_value.proofs.Numbers.{IsBytes}
use Rattle.amqp_method.specs.Arguments.{Argument, kind_of, keep, kept, wanted_kind, wanted, Call, call, Fits}
use Rattle.amqp_method.specs.Faults.{out_of_memory}
use Rattle.amqp_method.specs.Kinds.{HasIds, kind_with, fields_of}
use Rattle.amqp_method.specs.Methods.{FieldRow, row}
use Rattle.amqp_method.specs.Reading.{Gives, no_bits, read_number, args_at, whole, call_at, method_at}
use Rattle.amqp_method.specs.Encoding.{parts_of, EncodesParts, EncodesArgs, EncodesMethod}
use Rattle.amqp_method.specs.declared.faults.MethodFault.{MethodFault}
use Rattle.amqp_method.specs.declared.fields.FieldKind.{FieldKind}
use Rattle.amqp_method.specs.declared.kinds.Kind.{Kind}
use Rattle.amqp_method.proofs.ArgsLemmas.{kinds_of, args_at-takes, args_at-again}
use Rattle.amqp_method.proofs.FieldLemmas.{same_ok, read_number-takes, read_number-again}
use Rattle.amqp_method.proofs.KindLemmas.{kind_with-named, kind_with-own}
use Rattle.amqp_method.proofs.RunLemmas.{on_parts, off_parts}

-- what is read whole leaves nothing
pub whole-ok : {X : Type 0} (end : ℕ) (x y : X) (octets : List ℕ) → whole end x octets ≡ Ok y → (octets ≡ []) × (x ≡ y)
whole-ok end x y [] e = (refl, same_ok x y e)
whole-ok end x y (first ∷ others) e = absurd cc

record TakesCall (class id : ℕ) (octets : List ℕ) (c : Call) : Type 0 where
  named : HasIds class id c.kind
  args : EncodesArgs (fields_of c.kind) c.args octets

call_at-takes : (end class id : ℕ) (octets : List ℕ) (found : Option Kind) (c : Call) → IsBytes octets → kind_with class id ≡ found → call_at end octets found ≡ Ok c → TakesCall class id octets c
call_at-takes end class id octets None c fits is e = absurd cc
call_at-takes end class id octets (Some kind) c fits is e =
    let b = bind_ok (args_at (fields_of kind) no_bits end octets) _ c e in
    let w = whole-ok end (call kind b.0.0) c b.0.1 b.2 in
    let t = args_at-takes (fields_of kind) no_bits end octets b.0 fits b.1 in
    let all : octets ≡ t.prefix = t.parts ∙ ap (λ (o : List ℕ). t.prefix ++ o) w.0 ∙ append-nil t.prefix in
    subst (TakesCall class id octets) w.1 (record {
      named = kind_with-named class id kind is;
      args = record { values = t.values; kinds_are = t.kinds_are; args_are = t.args_are; encoded = subst (EncodesParts (parts_of t.values)) (sym all) (off_parts 0 (parts_of t.values) t.prefix t.encoded) };
    })

pub method_at-takes : (octets : List ℕ) (c : Call) → IsBytes octets → method_at octets ≡ Ok c → EncodesMethod c octets
unfolding method_at
method_at-takes octets c fits e =
    let end = length octets in
    let a = bind_ok (read_number 2 end octets) _ c e in
    let class = read_number-takes 2 end octets a.0 fits a.1 in
    let b = bind_ok (read_number 2 end a.0.1) _ c a.2 in
    let id = read_number-takes 2 end a.0.1 b.0 class.after_fits b.1 in
    let t = call_at-takes end a.0.0 b.0.0 b.0.1 (kind_with a.0.0 b.0.0) c id.after_fits refl b.2 in
    record {
      class = class.prefix;
      id = id.prefix;
      arguments = b.0.1;
      octets_are = class.parts ∙ ap (λ (o : List ℕ). class.prefix ++ o) id.parts;
      class_is = rw t.named.class_is class.encodes;
      id_is = rw t.named.id_is id.encodes;
      args = t.args;
    }

pub method_at-again : (octets : List ℕ) (c : Call) → EncodesMethod c octets → method_at octets ≡ Ok c
unfolding method_at
method_at-again octets c s =
    let end = length octets in
    let class : read_number 2 end octets ≡ Ok ((row c.kind).class, s.id ++ s.arguments) =
    ap (read_number 2 end) s.octets_are ∙ read_number-again 2 end (row c.kind).class s.class (s.id ++ s.arguments) s.class_is in
    let id = read_number-again 2 end (row c.kind).id s.id s.arguments s.id_is in
    let args : args_at (fields_of c.kind) no_bits end s.arguments ≡ Ok (c.args, []) =
    ap (args_at (fields_of c.kind) no_bits end) (sym (append-nil s.arguments))
    ∙ args_at-again (fields_of c.kind) s.args.values no_bits end s.arguments [] s.args.kinds_are (on_parts 0 (parts_of s.args.values) s.arguments s.args.encoded)
    ∙ rw (← s.args.args_are) refl in
    rw (class, id, kind_with-own c.kind, args) refl

pub ok_not_err : (c : Call) (e : MethodFault) → Ok c ≡ Err e → ⊥
ok_not_err c e h = cc

-- ---- as clauses of a call that gives what reading gives

pub found : {X : Type 0} (view : X → Call) (octets : List ℕ) (r : Result X MethodFault) → IsBytes octets → Gives view r (method_at octets) → IfOk r (λ x. EncodesMethod (view x) octets)
found view octets (Ok x) fits e = method_at-takes octets (view x) fits e
found view octets (Err e) fits h = tt

pub only : {X : Type 0} (view : X → Call) (octets : List ℕ) (r : Result X MethodFault) → Gives view r (method_at octets) → (c : Call) → EncodesMethod c octets → Gives view r (Ok c)
only view octets (Ok x) e c s = sym (method_at-again octets c s) ∙ e
only view octets (Err e) (inl memory) c s = inl memory
only view octets (Err e) (inr is) c s = inr (sym (method_at-again octets c s) ∙ is)

pub refused : {X : Type 0} (view : X → Call) (octets : List ℕ) (r : Result X MethodFault) → Gives view r (method_at octets)
    → IfErr r (λ e. (e ≡ out_of_memory) ⊎ ((c : Call) → EncodesMethod c octets → ⊥))
refused view octets (Ok x) e = tt
refused view octets (Err e) (inl memory) = inl memory
refused view octets (Err e) (inr is) = inr (λ c s. ok_not_err c e (sym (method_at-again octets c s) ∙ is))

-- the arguments kept of values of the fields' kinds fit
fit-keep : (reserved : Bool) (value : Argument) (kind : FieldKind) (args : List Argument) (kinds : List FieldKind) → kind_of value ≡ kind → map kind_of args ≡ kinds
    → map kind_of (keep reserved value args) ≡ wanted_kind reserved kind kinds
fit-keep true value kind args kinds h k = k
fit-keep false value kind args kinds h k = rw (h, k) refl

fit-kept : (fields : List FieldRow) (values : List Argument) → map kind_of values ≡ kinds_of fields → map kind_of (kept fields values) ≡ wanted fields
fit-kept [] values e = refl
fit-kept (f ∷ fields) [] e = absurd cc
fit-kept (f ∷ fields) (value ∷ values) e =
    let here : kind_of value ≡ f.kind = cc in
    let others : map kind_of values ≡ kinds_of fields = cc in
    fit-keep f.reserved value f.kind (kept fields values) (wanted fields) here (fit-kept fields values others)

pub method_at-fits : (octets : List ℕ) (c : Call) → IsBytes octets → method_at octets ≡ Ok c → Fits c
method_at-fits octets c fits e =
    let s = (method_at-takes octets c fits e).args in
    rw s.args_are (fit-kept (fields_of c.kind) s.values s.kinds_are)
