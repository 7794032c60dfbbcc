-- Views of methods: what is read of octets that are known to be read.
use Rattle.std.proofs.Common.{◌≡◌, ℕ, suc, ◌≤◌, List, [], ◌∷◌, length, map, drop, Bool, ltb, Option, Some, None, Result, Ok, Err, refl, sym, ap, subst, ◌∙◌, arith}
use Rattle.std.specs.Prelude.{IsOk, IsTrue, is_ok}
use Rattle.std.proofs.lemmas.Bool.{ltb-false}
use Rattle.std.proofs.lemmas.List.{drop-drop, length-drop}
use Rattle.byteorder.specs.Endian.{big_number}
use Rattle.amqp_value.specs.Reading.{◌>>=◌, table_at}
use Rattle.amqp_value.specs.Values.{Pairs}
use Rattle.amqp_value.specs.declared.fault.ValueFault.{ValueFault}
use Rattle.amqp_value.specs.Whole.{BeginsTable}
use Rattle.amqp_method.specs.declared.fields.FieldKind.{FieldKind}
use Rattle.amqp_method.specs.declared.fields.FieldKind.TheVariants.{Table}
use Rattle.amqp_value.proofs.Elements.{bind_ok, guard_ok}
use Rattle.amqp_method.specs.Arguments.{Argument, table, keep, Call, call}
use Rattle.amqp_method.specs.Checking.{kind_read}
use Rattle.amqp_method.specs.Kinds.{kind_with, fields_of}
use Rattle.amqp_method.specs.MethodRefs.{values_read}
use Rattle.amqp_method.specs.MethodRefView.{args_read}
use Rattle.amqp_method.specs.Methods.{FieldRow}
use Rattle.amqp_method.specs.Places.{argument_at}
use Rattle.amqp_method.specs.Reading.{Read, Bits, no_bits, read_number, after_table, ends_run, field_at, args_at, call_at, method_at}
use Rattle.amqp_method.specs.Rows.{field_view}
use Rattle.amqp_method.specs.declared.faults.MethodFault.{MethodFault}
use Rattle.amqp_method.specs.declared.fields.Field.{Field}
use Rattle.amqp_method.specs.declared.kinds.Kind.{Kind}
use Rattle.amqp_method.specs.Encoding.{EncodesMethod}
use Rattle.amqp_method.proofs.FieldLemmas.{same_ok}
use Rattle.amqp_method.proofs.MethodLemmas.{method_at-again, whole-ok}

-- ---- a method

-- where the arguments stand, and what is read there
pub record HasArgs (octets : List ℕ) (c : Call) : Type 0 where
  pub long : 4 ≤ length octets
  pub args : args_at (fields_of c.kind) no_bits (length octets) (drop 4 octets) ≡ Ok (c.args, [])

pub record IsNumber (n : ℕ) (octets : List ℕ) (x : ℕ × List ℕ) : Type 0 where
  pub long : n ≤ length octets
  pub number : x.0 ≡ big_number n octets
  pub after : x.1 ≡ drop n octets

pub is_number : (n end : ℕ) (octets : List ℕ) (x : ℕ × List ℕ) → read_number n end octets ≡ Ok x → IsNumber n octets x
is_number n end octets x e =
    let g = guard_ok (ltb (length octets) n) _ _ x e in
    record {
      long = ltb-false _ _ g.0;
      number = ap (λ (y : ℕ × List ℕ). y.0) (sym (same_ok _ _ g.1));
      after = ap (λ (y : ℕ × List ℕ). y.1) (sym (same_ok _ _ g.1));
    }

args_of_call : (end : ℕ) (octets : List ℕ) (found : Option Kind) (c : Call) → call_at end octets found ≡ Ok c → args_at (fields_of c.kind) no_bits end octets ≡ Ok (c.args, [])
args_of_call end octets None c e = absurd cc
args_of_call end octets (Some kind) c e =
    let b = bind_ok (args_at (fields_of kind) no_bits end octets) _ c e in
    let w = whole-ok end (call kind b.0.0) c b.0.1 b.2 in
    subst (λ (d : Call). args_at (fields_of d.kind) no_bits end octets ≡ Ok (d.args, [])) w.1
    (b.1 ∙ ap (λ (after : List ℕ). Ok (b.0.0, after)) w.0)

pub has_args : (octets : List ℕ) (c : Call) → method_at octets ≡ Ok c → HasArgs octets c
unfolding method_at
has_args octets c e =
    let end = length octets in
    let a = bind_ok (read_number 2 end octets) _ c e in
    let class = is_number 2 end octets a.0 a.1 in
    let b = bind_ok (read_number 2 end a.0.1) _ c a.2 in
    let id = is_number 2 end a.0.1 b.0 b.1 in
    let rest : b.0.1 ≡ drop 4 octets = id.after ∙ ap (λ (o : List ℕ). drop 2 o) class.after ∙ drop-drop 2 2 octets in
    record {
      long = omega (arith, class.long, id.long, ap length class.after, length-drop 2 octets);
      args = subst (λ (o : List ℕ). args_at (fields_of c.kind) no_bits end o ≡ Ok (c.args, [])) rest (args_of_call end b.0.1 (kind_with a.0.0 b.0.0) c b.2);
    }

read_as : (read : Result Call MethodFault) (kind : Kind) → kind_read read ≡ Ok kind → read ≡ Ok (call kind (args_read read))
read_as (Ok c) kind is = ap (λ (k : Kind). Ok (call k c.args)) (same_ok c.kind kind is)
read_as (Err e) kind is = absurd cc

-- the method that is read, where its kind is known
pub call_read : (octets : List ℕ) (kind : Kind) → kind_read (method_at octets) ≡ Ok kind → method_at octets ≡ Ok (call kind (args_read (method_at octets)))
call_read octets kind is = read_as (method_at octets) kind is

-- where the arguments of a view stand
pub lent_args : (octets : List ℕ) (kind : Kind) → kind_read (method_at octets) ≡ Ok kind → HasArgs octets (call kind (args_read (method_at octets)))
lent_args octets kind is = has_args octets (call kind (args_read (method_at octets))) (call_read octets kind is)

pub only_read : (octets : List ℕ) (kind : Kind) (c : Call) → kind_read (method_at octets) ≡ Ok kind → EncodesMethod c octets → call kind (args_read (method_at octets)) ≡ c
only_read octets kind c is s = same_ok _ _ (sym (call_read octets kind is) ∙ method_at-again octets c s)

-- ---- arguments, one after another

-- what is read without a fault
pub is_read : (read : Read (List Argument)) (x : List Argument × List ℕ) → read ≡ Ok x → IsOk read
is_read read x is = rw is refl

pub values_are : (read : Read (List Argument)) (x : List Argument × List ℕ) → read ≡ Ok x → values_read read ≡ x.0
values_are read x is = rw is refl

abbrev with_value : Bool → Argument → Read (List Argument) → Read (List Argument)
with_value reserved value read = read >>= λ y. Ok (keep reserved value y.0, y.1)

pub record Others (reserved : Bool) (value : Argument) (others all : Read (List Argument)) : Type 0 where
  pub reads : IsOk others
  pub values : values_read all ≡ keep reserved value (values_read others)

others_of : (reserved : Bool) (value : Argument) (others : Read (List Argument)) → IsOk (with_value reserved value others) → Others reserved value others (with_value reserved value others)
others_of reserved value (Ok y) ok = record { reads = refl; values = refl }
others_of reserved value (Err e) ok = absurd cc

-- where the first field's value is read, the others are
pub first_value : (kinds : List FieldRow) (f : FieldRow) (fields : List FieldRow) (bits others : Bits) (end : ℕ) (octets after : List ℕ) (value : Argument)
    → kinds ≡ f ∷ fields → IsOk (args_at kinds bits end octets) → field_at f.kind bits end octets ≡ Ok ((value, others), after)
    → Others f.reserved value (args_at fields others end after) (args_at kinds bits end octets)
unfolding args_at
first_value kinds f fields bits others end octets after value are ok is =
    let all : args_at kinds bits end octets ≡ with_value f.reserved value (args_at fields others end after) =
    ap (λ (k : List FieldRow). args_at k bits end octets) are
    ∙ ap (λ (r : Read (Argument × Bits)). r >>= λ x. (args_at fields x.0.1 end x.1 >>= λ y. Ok (keep f.reserved x.0.0 y.0, y.1))) is in
    subst (λ (r : Read (List Argument)). Others f.reserved value (args_at fields others end after) r) (sym all)
    (others_of f.reserved value (args_at fields others end after) (subst IsOk all ok))

no_ok : (e : MethodFault) → IsOk {T = List Argument × List ℕ} {E = MethodFault} (Err e) → ⊥
no_ok e ok = cc

-- and its reading doesn't fail
pub no_fault : (kinds : List FieldRow) (f : FieldRow) (fields : List FieldRow) (bits : Bits) (end : ℕ) (octets : List ℕ) (e : MethodFault)
    → kinds ≡ f ∷ fields → IsOk (args_at kinds bits end octets) → field_at f.kind bits end octets ≡ Err e → ⊥
unfolding args_at
no_fault kinds f fields bits end octets e are ok is =
    let all : args_at kinds bits end octets ≡ Err e =
    ap (λ (k : List FieldRow). args_at k bits end octets) are
    ∙ ap (λ (r : Read (Argument × Bits)). r >>= λ x. (args_at fields x.0.1 end x.1 >>= λ y. Ok (keep f.reserved x.0.0 y.0, y.1))) is in
    no_ok e (subst IsOk all ok)

-- a field's value among the arguments that are read after it
abbrev and_rest : Bool → List FieldRow → ℕ → Read (Argument × Bits) → Read (List Argument)
and_rest reserved fields end read = read >>= λ x. (args_at fields x.0.1 end x.1 >>= λ y. Ok (keep reserved x.0.0 y.0, y.1))

-- a table that is read without a fault begins there
begins : (fields : List FieldRow) (reserved : Bool) (end : ℕ) (octets : List ℕ) (read : Result (Pairs × ℕ) ValueFault)
    → IsOk (and_rest reserved fields end (ends_run table (after_table end octets read))) → IsTrue (is_ok read)
begins fields reserved end octets (Ok x) ok = refl
begins fields reserved end octets (Err e) ok = absurd cc

pub begins_table : (kinds : List FieldRow) (f : FieldRow) (fields : List FieldRow) (bits : Bits) (end : ℕ) (octets : List ℕ)
    → kinds ≡ f ∷ fields → IsOk (args_at kinds bits end octets) → f.kind ≡ Table → BeginsTable octets
unfolding args_at field_at
begins_table kinds f fields bits end octets are ok is_table =
    let all : IsOk (args_at (f ∷ fields) bits end octets) = subst (λ (k : List FieldRow). IsOk (args_at k bits end octets)) are ok in
    begins fields f.reserved end octets (table_at octets)
    (subst (λ (k : FieldKind). IsOk (and_rest f.reserved fields end (field_at k bits end octets))) is_table all)

pub no_values : (kinds : List FieldRow) (bits : Bits) (end : ℕ) (octets : List ℕ) → kinds ≡ [] → values_read (args_at kinds bits end octets) ≡ []
unfolding args_at
no_values kinds bits end octets none = rw none refl

pub args_lent : (octets rest : List ℕ) (kind : Kind) (fields : List FieldRow) → kind_read (method_at octets) ≡ Ok kind → fields ≡ fields_of kind → rest ≡ drop 4 octets
    → args_at fields no_bits (length octets) rest ≡ Ok (args_read (method_at octets), [])
args_lent octets rest kind fields is are after = rw (are, after) (lent_args octets kind is).args

-- ---- arguments by place

pub none_at : (n : ℕ) (args : List Argument) → args ≡ [] → argument_at n args ≡ None
none_at n args none = rw none refl

pub next_at : (n m : ℕ) (args rest : List Argument) (a : Argument) → args ≡ a ∷ rest → n ≡ suc m → argument_at n args ≡ argument_at m rest
next_at n m args rest a is next = rw (is, next) refl

pub first_at : (n : ℕ) (args rest : List Argument) (a : Argument) → args ≡ a ∷ rest → n ≡ 0 → argument_at n args ≡ Some a
first_at n args rest a is none = rw (is, none) refl

pub none_left : (fields : List Field) → length fields ≡ 0 → map field_view fields ≡ []
none_left [] h = refl
none_left (f ∷ fields) h = absurd (omega arith)
