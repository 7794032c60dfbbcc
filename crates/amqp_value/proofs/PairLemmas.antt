-- Pairs, counted and looked up.
use Rattle.std.proofs.Common.{◌≡◌, ℕ, suc, ◌+◌, ◌<◌, ◌≤◌, List, [], ◌∷◌, length, get_or, drop, cond, Some, None, Option, refl, ap, add-one, drop-cons}
use Rattle.std.proofs.lemmas.List.{drop_all}
use Rattle.std.specs.Str.{bytes_eq}
use Rattle.amqp_value.specs.Pairs.{pair_count, value_named}
use Rattle.amqp_value.specs.Values.{Datum}
use Rattle.amqp_value.specs.View.{view, pairs_view}
use Rattle.amqp_value.proofs.Depths.{Pair}

pub count_of : (pairs : List Pair) → pair_count (pairs_view pairs) ≡ length pairs
count_of [] = refl
count_of (p ∷ pairs) = ap suc (count_of pairs)

-- the value under a name among the pairs from one on
abbrev pub named_from : ℕ → List Pair → List ℕ → Option Datum
named_from i pairs name = value_named name (pairs_view (drop i pairs))

pub next_pair : (pairs : List Pair) (i : ℕ) (d : Pair) (name : List ℕ) → i < length pairs
    → named_from i pairs name ≡ cond (bytes_eq (get_or pairs i d).0 name) (Some (view (get_or pairs i d).1)) (named_from (i + 1) pairs name)
next_pair pairs i d name h = rw (add-one, drop-cons pairs i d) refl

pub no_pair : (pairs : List Pair) (i : ℕ) (name : List ℕ) → length pairs ≤ i → named_from i pairs name ≡ None
no_pair pairs i name h = rw (drop_all i pairs h) refl
