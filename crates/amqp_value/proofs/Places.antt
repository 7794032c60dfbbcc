-- The first pair with a name: found, replaced, taken out.
use Rattle.std.proofs.Common.{◌≡◌, ℕ, zero, suc, max, ◌+◌, ◌≤◌, ◌<◌, Bool, true, false, cond, List, [], ◌∷◌, ◌++◌}
use Rattle.std.proofs.Common.{length, get_or, slice_set, take, drop, Option, Some, None, refl, sym, ap, ◌∙◌, arith}
use Rattle.std.proofs.Common.{add-one}
use Rattle.std.specs.Str.{bytes_eq}
use Rattle.std.proofs.lemmas.List.{take_all}
use Rattle.amqp_value.specs.Pairs.{value_named, with_value, without}
use Rattle.amqp_value.specs.Values.{Datum, Pairs, no_pairs, pair, with_pair, depth, pairs_depth}
use Rattle.amqp_value.specs.View.{view, pairs_view}
use Rattle.amqp_value.specs.declared.values.Value.{Value}
use Rattle.amqp_value.proofs.Depths.{Pair}

-- a pair that is not the name's
not_here : {X : Type 0} (b : Bool) (x : X) (rest : Option X) → cond b (Some x) rest ≡ None → (b ≡ false) × (rest ≡ None)
not_here true x rest e = absurd cc
not_here false x rest e = (refl, e)

-- none with the name so far, nor at this place
pub goes_on : (pairs : List Pair) (place : ℕ) (d : Pair) (name : List ℕ) → place < length pairs → value_named name (pairs_view (take place pairs)) ≡ None → bytes_eq (get_or pairs place d).0 name ≡ false
    → value_named name (pairs_view (take (suc place) pairs)) ≡ None
goes_on [] place d name lt before here = absurd (omega arith)
goes_on (p ∷ pairs) zero d name lt before here = rw here refl
goes_on (p ∷ pairs) (suc place) d name lt before here =
    let first = not_here (bytes_eq p.0 name) (view p.1) (value_named name (pairs_view (take place pairs))) before in
    rw first.0 (goes_on pairs place d name (omega arith) first.1 here)

pub none_after : (pairs : List Pair) (place : ℕ) (d : Pair) (name : List ℕ) → place < length pairs → value_named name (pairs_view (take place pairs)) ≡ None → bytes_eq (get_or pairs place d).0 name ≡ false
    → value_named name (pairs_view (take (place + 1) pairs)) ≡ None
none_after pairs place d name lt before here = rw add-one (goes_on pairs place d name lt before here)

pub none-at-end : (pairs : List Pair) (place : ℕ) (name : List ℕ) → length pairs ≤ place → value_named name (pairs_view (take place pairs)) ≡ None → value_named name (pairs_view pairs) ≡ None
none-at-end pairs place name le before = ap (λ ps. value_named name (pairs_view ps)) (sym (take_all place pairs le)) ∙ before

-- the value of the pair at the place
pub named-here : (pairs : List Pair) (place : ℕ) (d : Pair) (name : List ℕ) → place < length pairs → value_named name (pairs_view (take place pairs)) ≡ None → bytes_eq (get_or pairs place d).0 name ≡ true
    → value_named name (pairs_view pairs) ≡ Some (view (get_or pairs place d).1)
named-here [] place d name lt before here = absurd (omega arith)
named-here (p ∷ pairs) zero d name lt before here = rw here refl
named-here (p ∷ pairs) (suc place) d name lt before here =
    let first = not_here (bytes_eq p.0 name) (view p.1) (value_named name (pairs_view (take place pairs))) before in
    rw first.0 (named-here pairs place d name (omega arith) first.1 here)

-- the pair at the place taken out
pub taken-out : (pairs : List Pair) (place : ℕ) (d : Pair) (name : List ℕ) → place < length pairs → value_named name (pairs_view (take place pairs)) ≡ None → bytes_eq (get_or pairs place d).0 name ≡ true
    → without name (pairs_view pairs) ≡ pairs_view (take place pairs ++ drop (suc place) pairs)
taken-out [] place d name lt before here = absurd (omega arith)
taken-out (p ∷ pairs) zero d name lt before here = rw here refl
taken-out (p ∷ pairs) (suc place) d name lt before here =
    let first = not_here (bytes_eq p.0 name) (view p.1) (value_named name (pairs_view (take place pairs))) before in
    rw first.0 (ap (pair p.0 (view p.1)) (taken-out pairs place d name (omega arith) first.1 here))

-- a pair with the name: none is taken out
pub none-taken : (pairs : Pairs) (name : List ℕ) → value_named name pairs ≡ None → without name pairs ≡ pairs
none-taken no_pairs name none = refl
none-taken (pair first value pairs) name none =
    let other = not_here (bytes_eq first name) value (value_named name pairs) none in
    rw other.0 (ap (pair first value) (none-taken pairs name other.1))

-- a value more, where none stands under the name
pub is-pushed : (pairs : Pairs) (name : List ℕ) (value : Datum) → value_named name pairs ≡ None → with_value pairs name value ≡ with_pair pairs name value
is-pushed no_pairs name value none = refl
is-pushed (pair first held pairs) name value none =
    let other = not_here (bytes_eq first name) held (value_named name pairs) none in
    rw other.0 (ap (pair first held) (is-pushed pairs name value other.1))

-- a table without a pair nests no deeper
pub without-depth : (pairs : Pairs) (name : List ℕ) → pairs_depth (without name pairs) ≤ pairs_depth pairs
without-depth no_pairs name = omega arith
without-depth (pair first value pairs) name = cut (bytes_eq first name) first value pairs name (without-depth pairs name)
  where
    cut : (b : Bool) (first : List ℕ) (value : Datum) (pairs : Pairs) (name : List ℕ) → pairs_depth (without name pairs) ≤ pairs_depth pairs
        → pairs_depth (cond b pairs (pair first value (without name pairs))) ≤ pairs_depth (pair first value pairs)
    cut true first value pairs name less = omega arith
    cut false first value pairs name less = omega (arith, less)

-- another value in place of that of the pair
pub replaced : (pairs : List Pair) (place : ℕ) (d : Pair) (name : List ℕ) (v : Value) → place < length pairs → value_named name (pairs_view (take place pairs)) ≡ None → bytes_eq (get_or pairs place d).0 name ≡ true
    → with_value (pairs_view pairs) name (view v) ≡ pairs_view (slice_set pairs place ((get_or pairs place d).0, v))
replaced [] place d name v lt before here = absurd (omega arith)
replaced (p ∷ pairs) zero d name v lt before here = rw here refl
replaced (p ∷ pairs) (suc place) d name v lt before here =
    let first = not_here (bytes_eq p.0 name) (view p.1) (value_named name (pairs_view (take place pairs))) before in
    rw first.0 (ap (pair p.0 (view p.1)) (replaced pairs place d name v (omega arith) first.1 here))

-- how deep a table nests with the value
pub with_value-depth : (pairs : Pairs) (name : List ℕ) (value : Datum) → (pairs_depth (with_value pairs name value) ≤ max (pairs_depth pairs) (depth value)) × (depth value ≤ pairs_depth (with_value pairs name value))
with_value-depth no_pairs name value = (omega arith, omega arith)
with_value-depth (pair first held pairs) name value = put (bytes_eq first name) first held pairs name value (with_value-depth pairs name value)
  where
    put : (b : Bool) (first : List ℕ) (held : Datum) (pairs : Pairs) (name : List ℕ) (value : Datum)
        → (pairs_depth (with_value pairs name value) ≤ max (pairs_depth pairs) (depth value)) × (depth value ≤ pairs_depth (with_value pairs name value))
        → (pairs_depth (cond b (pair first value pairs) (pair first held (with_value pairs name value))) ≤ max (pairs_depth (pair first held pairs)) (depth value))
        × (depth value ≤ pairs_depth (cond b (pair first value pairs) (pair first held (with_value pairs name value))))
    put true first held pairs name value both = (omega arith, omega arith)
    put false first held pairs name value both = (omega (arith, both.0), omega (arith, both.1))
