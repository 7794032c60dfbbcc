-- Arguments by place, and places by name.
use Rattle.std.proofs.Common.{◌≡◌, ℕ, zero, suc, ◌+◌, ◌<◌, ◌≤◌, List, [], ◌∷◌, length, map, drop, get_or, cond, Option, Some, None, MatchOption, Bor, refl, sym, ap, ◌∙◌, arith}
use Rattle.std.specs.Slice.{IsItemAt}
use Rattle.std.specs.Str.{bytes_eq}
use Rattle.std.proofs.lemmas.List.{drop_all}
use Rattle.amqp_method.specs.Methods.{FieldRow}
use Rattle.amqp_method.specs.Places.{argument_at, place_named}
use Rattle.amqp_method.specs.Rows.{field_view}
use Rattle.amqp_method.specs.Views.{arg_view, args_view}
use Rattle.amqp_method.specs.declared.fields.Arg.{Arg}
use Rattle.amqp_method.specs.declared.fields.Field.{Field}
use Rattle.amqp_method.proofs.FitLemmas.{field_here}

argument_past : (args : List Arg) (place : ℕ) → length args ≤ place → argument_at place (args_view args) ≡ None
argument_past [] place h = refl
argument_past (a ∷ args) zero h = absurd (omega arith)
argument_past (a ∷ args) (suc n) h = argument_past args n (omega arith)

argument_here : (args : List Arg) (place : ℕ) (d : Arg) → place < length args → argument_at place (args_view args) ≡ Some (arg_view (get_or args place d))
argument_here [] place d h = absurd (omega arith)
argument_here (a ∷ args) zero d h = refl
argument_here (a ∷ args) (suc n) d h = argument_here args n d (omega arith)

-- what is lent of the arguments is the argument at the place
pub argument_got : (all args : List Arg) (place : ℕ) (lent : Option (Bor Arg)) → args_view args ≡ args_view all → IsItemAt args place lent
    → MatchOption lent (argument_at place (args_view all) ≡ None) (λ arg. argument_at place (args_view all) ≡ Some (arg_view arg.now))
argument_got all args place None same h = ap (argument_at place) (sym same) ∙ argument_past args place h.3
argument_got all args place (Some arg) same h = ap (argument_at place) (sym same) ∙ argument_here args place arg.now h.3.0 ∙ ap (λ (a : Arg). Some (arg_view a)) (sym h.1)

-- ---- field by field

-- the place of a name among the fields from one on
abbrev pub named_from : ℕ → List Field → ℕ → List ℕ → Option ℕ
named_from i fields place name = place_named place (map field_view (drop i fields)) name

pub next_place : (fields : List Field) (i : ℕ) (d : Field) (place : ℕ) (name : List ℕ) → i < length fields
    → named_from i fields place name
    ≡ cond (get_or fields i d).reserved (named_from (i + 1) fields place name) (cond (bytes_eq (get_or fields i d).name.now name) (Some place) (named_from (i + 1) fields (suc place) name))
next_place fields i d place name h = ap (λ (f : List FieldRow). place_named place f name) (field_here fields i d h)

pub no_place : (fields : List Field) (i place : ℕ) (name : List ℕ) → length fields ≤ i → named_from i fields place name ≡ None
no_place fields i place name h = rw (drop_all i fields h) refl
