-- Lent values, built with memory of their own.
use Rattle.std.proofs.Common.{◌≡◌, List, [], ◌∷◌, ◌++◌, Bool, true, false, refl, ap, sym, ◌∙◌, append_assoc}
use Rattle.std.proofs.lemmas.List.{append-nil}
use Rattle.amqp_method.specs.Arguments.{Argument, keep}

-- ---- arguments

kept_more : (before after : List Argument) (reserved : Bool) (value : Argument) → (before ++ keep reserved value []) ++ after ≡ before ++ keep reserved value after
kept_more before after true value = rw (append-nil before) refl
kept_more before after false value = append_assoc before (value ∷ []) after

-- one argument more is built of those that are left
pub built_more : (old new after left : List Argument) (reserved : Bool) (value : Argument)
    → left ≡ keep reserved value after → new ≡ old ++ keep reserved value [] → new ++ after ≡ old ++ left
built_more old new after left reserved value is built =
    ap (λ (args : List Argument). args ++ after) built ∙ kept_more old after reserved value ∙ ap (λ (args : List Argument). old ++ args) (sym is)

pub all_built : (built left all : List Argument) → left ≡ [] → built ++ left ≡ all → built ≡ all
all_built built left all none is = sym (append-nil built) ∙ ap (λ (args : List Argument). built ++ args) (sym none) ∙ is
