-- What stands at a place of a list that changes elsewhere.
use Rattle.std.proofs.Common.{◌≡◌, ℕ, ◌<◌, zero, suc, List, [], ◌∷◌, ◌++◌, length, Some, slice_set, refl, arith}
use Rattle.std.specs.Prelude.{slice_get}

-- where more follows
pub get_more : {A : Type 0} (xs ys : List A) (at : ℕ) (x : A) → slice_get xs at ≡ Some x → slice_get (xs ++ ys) at ≡ Some x
get_more [] ys at x is = absurd cc
get_more (first ∷ xs) ys zero x is = is
get_more (first ∷ xs) ys (suc at) x is = get_more xs ys at x is

-- where a later place is set
pub get_before : {A : Type 0} (xs : List A) (place : ℕ) (y : A) (at : ℕ) (x : A) → at < place → slice_get xs at ≡ Some x
    → slice_get (slice_set xs place y) at ≡ Some x
get_before [] place y at x less is = absurd cc
get_before (first ∷ xs) zero y at x less is = absurd (omega arith)
get_before (first ∷ xs) (suc place) y zero x less is = is
get_before (first ∷ xs) (suc place) y (suc at) x less is = get_before xs place y at x (omega (arith, less)) is

-- where it is set
pub get_set : {A : Type 0} (xs : List A) (place : ℕ) (y : A) → place < length xs → slice_get (slice_set xs place y) place ≡ Some y
get_set [] place y less = absurd (omega arith)
get_set (first ∷ xs) zero y less = refl
get_set (first ∷ xs) (suc place) y less = get_set xs place y (omega (arith, less))
