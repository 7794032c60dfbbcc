-- Whether arguments fit fields, field by field.
use Rattle.std.proofs.Common.{◌≡◌, ℕ, ◌+◌, ◌<◌, ◌≤◌, List, [], ◌∷◌, ◌++◌, length, map, drop, get_or, Bool, true, false, Option, Some, None, is_some, not, MatchOption, refl, sym, ap, subst, ◌∙◌, append_assoc, add-one, drop-cons, length-append, arith}
use Rattle.std.specs.Prelude.{IsTrue}
use Rattle.std.proofs.lemmas.List.{drop_all, append_cancel_left}
use Rattle.amqp_method.specs.Arguments.{Argument, kind_of, wanted_kind, wanted, Fit, StartUnlike, FirstMisfit}
use Rattle.amqp_method.specs.Methods.{FieldRow}
use Rattle.amqp_method.specs.Rows.{field_view}
use Rattle.amqp_method.specs.declared.fields.Field.{Field}
use Rattle.amqp_method.specs.declared.fields.FieldKind.{FieldKind}

-- so many arguments met the fields before: these are left, of both
pub record Met (fields : List FieldRow) (rest : List Argument) (all : List FieldRow) (args : List Argument) (place : ℕ) : Type 0 where
  pub before : List FieldKind
  pub args_are : map kind_of args ≡ before ++ map kind_of rest
  pub wanted_are : wanted all ≡ before ++ wanted fields
  pub place_is : place ≡ length before

pub field_here : (fields : List Field) (i : ℕ) (d : Field) → i < length fields
    → map field_view (drop i fields) ≡ field_view (get_or fields i d) ∷ map field_view (drop (i + 1) fields)
field_here fields i d h = rw (add-one, drop-cons fields i d) refl

-- a reserved field wants no argument
skips : (reserved : Bool) (kind : FieldKind) (others : List FieldKind) → reserved ≡ true → wanted_kind reserved kind others ≡ others
skips true kind others e = refl
skips false kind others e = absurd cc

-- and any other field wants one of its kind
wants : (reserved : Bool) (kind : FieldKind) (others : List FieldKind) → reserved ≡ false → wanted_kind reserved kind others ≡ kind ∷ others
wants true kind others e = absurd cc
wants false kind others e = refl

pub none_met : (all : List FieldRow) (args : List Argument) → Met all args all args 0
none_met all args = record { before = []; args_are = refl; wanted_are = refl; place_is = refl }

pub reserved_next : (fields : List Field) (i : ℕ) (d : Field) (rest : List Argument) (all : List FieldRow) (args : List Argument) (place : ℕ) → i < length fields → (get_or fields i d).reserved ≡ true
    → Met (map field_view (drop i fields)) rest all args place → Met (map field_view (drop (i + 1) fields)) rest all args place
reserved_next fields i d rest all args place h e m =
    let f = get_or fields i d in
    let others = map field_view (drop (i + 1) fields) in
    let is : wanted (map field_view (drop i fields)) ≡ wanted others = ap wanted (field_here fields i d h) ∙ skips f.reserved f.kind (wanted others) e in
    record {
      before = m.before;
      args_are = m.args_are;
      wanted_are = m.wanted_are ∙ ap (λ (kinds : List FieldKind). m.before ++ kinds) is;
      place_is = m.place_is;
    }

wanted_here : (fields : List Field) (i : ℕ) (d : Field) → i < length fields → (get_or fields i d).reserved ≡ false
    → wanted (map field_view (drop i fields)) ≡ (get_or fields i d).kind ∷ wanted (map field_view (drop (i + 1) fields))
wanted_here fields i d h e = ap wanted (field_here fields i d h) ∙ wants (get_or fields i d).reserved (get_or fields i d).kind (wanted (map field_view (drop (i + 1) fields))) e

one_more : (before : List FieldKind) (kind : FieldKind) (others : List FieldKind) → before ++ kind ∷ others ≡ (before ++ kind ∷ []) ++ others
one_more before kind others = sym (append_assoc before (kind ∷ []) others)

pub argument_next : (fields : List Field) (i : ℕ) (d : Field) (arg : Argument) (rest : List Argument) (all : List FieldRow) (args : List Argument) (place : ℕ) → i < length fields → (get_or fields i d).reserved ≡ false
    → kind_of arg ≡ (get_or fields i d).kind
    → Met (map field_view (drop i fields)) (arg ∷ rest) all args place → Met (map field_view (drop (i + 1) fields)) rest all args (place + 1)
argument_next fields i d arg rest all args place h e k m =
    let f = get_or fields i d in
    let others = map field_view (drop (i + 1) fields) in
    record {
      before = m.before ++ f.kind ∷ [];
      args_are =
          m.args_are ∙ ap (λ (kind : FieldKind). m.before ++ kind ∷ map kind_of rest) k ∙ one_more m.before f.kind (map kind_of rest);
      wanted_are =
          m.wanted_are ∙ ap (λ (kinds : List FieldKind). m.before ++ kinds) (wanted_here fields i d h e) ∙ one_more m.before f.kind (wanted others);
      place_is = omega (arith, m.place_is, length-append m.before (f.kind ∷ []));
    }

pub none_left : (fields : List Field) (i : ℕ) (d : Field) (all : List FieldRow) (args : List Argument) (place : ℕ) → i < length fields → (get_or fields i d).reserved ≡ false
    → Met (map field_view (drop i fields)) [] all args place → FirstMisfit all args place
none_left fields i d all args place h e m = record {
  before = m.before;
  given = [];
  due = (get_or fields i d).kind ∷ wanted (map field_view (drop (i + 1) fields));
  args_are = m.args_are;
  wanted_are = m.wanted_are ∙ ap (λ (kinds : List FieldKind). m.before ++ kinds) (wanted_here fields i d h e);
  place_is = m.place_is;
  unlike = tt;
}

pub other_kind : (fields : List Field) (i : ℕ) (d : Field) (arg : Argument) (rest : List Argument) (all : List FieldRow) (args : List Argument) (place : ℕ) → i < length fields → (get_or fields i d).reserved ≡ false
    → (kind_of arg ≡ (get_or fields i d).kind → ⊥)
    → Met (map field_view (drop i fields)) (arg ∷ rest) all args place → FirstMisfit all args place
other_kind fields i d arg rest all args place h e k m = record {
  before = m.before;
  given = kind_of arg ∷ map kind_of rest;
  due = (get_or fields i d).kind ∷ wanted (map field_view (drop (i + 1) fields));
  args_are = m.args_are;
  wanted_are = m.wanted_are ∙ ap (λ (kinds : List FieldKind). m.before ++ kinds) (wanted_here fields i d h e);
  place_is = m.place_is;
  unlike = k;
}

-- where no field is left
nothing_due : (fields : List Field) (i : ℕ) (rest : List Argument) (all : List FieldRow) (args : List Argument) (place : ℕ) → length fields ≤ i
    → (m : Met (map field_view (drop i fields)) rest all args place) → wanted all ≡ m.before ++ []
nothing_due fields i rest all args place h m = m.wanted_are ∙ ap (λ (f : List Field). m.before ++ wanted (map field_view f)) (drop_all i fields h)

pub all_met : (fields : List Field) (i : ℕ) (rest : List Argument) (all : List FieldRow) (args : List Argument) (place : ℕ) → length fields ≤ i
    → Met (map field_view (drop i fields)) rest all args place → rest ≡ [] → Fit all args
all_met fields i rest all args place h m none =
    m.args_are ∙ ap (λ (r : List Argument). m.before ++ map kind_of r) none ∙ sym (nothing_due fields i rest all args place h m)

pub one_over : (fields : List Field) (i : ℕ) (rest : List Argument) (all : List FieldRow) (args : List Argument) (place : ℕ) → length fields ≤ i
    → Met (map field_view (drop i fields)) rest all args place → (length rest ≡ 0 → ⊥) → FirstMisfit all args place
one_over fields i rest all args place h m some = record {
  before = m.before;
  given = map kind_of rest;
  due = [];
  args_are = m.args_are;
  wanted_are = nothing_due fields i rest all args place h m;
  place_is = m.place_is;
  unlike = begins rest some;
}
  where
    begins : (rest : List Argument) → (length rest ≡ 0 → ⊥) → StartUnlike (map kind_of rest) []
    begins [] some = absurd (some refl)
    begins (arg ∷ rest) some = tt

-- ---- arguments with a misfit don't fit

same_start : (kinds : List FieldKind) → StartUnlike kinds kinds → ⊥
same_start [] unlike = unlike
same_start (kind ∷ kinds) unlike = unlike refl

pub misfits : (fields : List FieldRow) (args : List Argument) (place : ℕ) → FirstMisfit fields args place → Fit fields args → ⊥
misfits fields args place m fit =
    let same : m.given ≡ m.due = append_cancel_left m.before m.given m.due (sym m.args_are ∙ fit ∙ m.wanted_are) in
    same_start m.due (subst (λ (kinds : List FieldKind). StartUnlike kinds m.due) same m.unlike)

pub with_rest : (fields : List FieldRow) (rest other : List Argument) (all : List FieldRow) (args : List Argument) (place : ℕ) → rest ≡ other → Met fields rest all args place → Met fields other all args place
with_rest fields rest other all args place e m = subst (λ r. Met fields r all args place) e m

pub fits_or_not : (fields : List FieldRow) (args : List Argument) (found : Option ℕ) (none : Bool) → is_some found ≡ not none
    → MatchOption found (Fit fields args) (λ place. FirstMisfit fields args place) → (IsTrue none → Fit fields args) × (Fit fields args → IsTrue none)
fits_or_not fields args None true is fit = (λ h. fit, λ h. refl)
fits_or_not fields args None false is fit = absurd cc
fits_or_not fields args (Some place) true is m = absurd cc
fits_or_not fields args (Some place) false is m = (λ h. absurd cc, λ fit. absurd (misfits fields args place m fit))
