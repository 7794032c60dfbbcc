-- How deep lists of values nest, element by element.
use Rattle.std.proofs.Common.{◌≡◌, inl, inr, ℕ, zero, suc, max, ◌+◌, ◌≤◌, ◌<◌, ◌↔◌, Bool, true, false, cond, IsTrue}
use Rattle.std.proofs.Common.{List, [], ◌∷◌, ◌++◌, length, get_or, take, Vec, Global, refl, ap, subst, ◌∙◌, add-one}
use Rattle.std.proofs.Common.{arith, rules}
use Rattle.std.proofs.lemmas.Bool.{cases_lt, both_ways}
use Rattle.std.proofs.lemmas.List.{take_all}
use Rattle.amqp_value.specs.Values.{Datum, array, table, Pairs, no_pairs, pair, with_pair, depth, items_depth, pairs_depth, table_depth}
use Rattle.amqp_value.specs.View.{view, items_view, pairs_view}
use Rattle.amqp_value.specs.declared.values.Value.{Value, Array, Table, the_lemmas}

abbrev pub Pair : Type 0
Pair = List ℕ × Value

pub view-Array : (values : Vec Value Global) → view (Array values) ≡ array (items_view values.items)
view-Array values = search (rules, the_lemmas)

pub view-Table : (pairs : Vec Pair Global) → view (Table pairs) ≡ table (pairs_view pairs.items)
view-Table pairs = search (rules, the_lemmas)

pub item_depth : (values : List Value) (i : ℕ) (d : Value) → i < length values → depth (view (get_or values i d)) ≤ items_depth (items_view values)
item_depth [] i d lt = absurd (omega arith)
item_depth (v ∷ values) zero d lt = omega arith
item_depth (v ∷ values) (suc i) d lt = omega (arith, item_depth values i d (omega arith))

pub pair_depth : (pairs : List Pair) (i : ℕ) (d : Pair) → i < length pairs → depth (view (get_or pairs i d).1) ≤ pairs_depth (pairs_view pairs)
pair_depth [] i d lt = absurd (omega arith)
pair_depth (p ∷ pairs) zero d lt = omega arith
pair_depth (p ∷ pairs) (suc i) d lt = omega (arith, pair_depth pairs i d (omega arith))

items_depth-suc : (values : List Value) (i : ℕ) (d : Value) (levels : ℕ) → i < length values → items_depth (items_view (take i values)) ≤ levels → depth (view (get_or values i d)) ≤ levels
    → items_depth (items_view (take (suc i) values)) ≤ levels
items_depth-suc [] i d levels lt before here = absurd (omega arith)
items_depth-suc (v ∷ values) zero d levels lt before here = omega (arith, here)
items_depth-suc (v ∷ values) (suc i) d levels lt before here = omega (arith, before, items_depth-suc values i d levels (omega arith) (omega (arith, before)) here)

pairs_depth-suc : (pairs : List Pair) (i : ℕ) (d : Pair) (levels : ℕ) → i < length pairs → pairs_depth (pairs_view (take i pairs)) ≤ levels → depth (view (get_or pairs i d).1) ≤ levels
    → pairs_depth (pairs_view (take (suc i) pairs)) ≤ levels
pairs_depth-suc [] i d levels lt before here = absurd (omega arith)
pairs_depth-suc (p ∷ pairs) zero d levels lt before here = omega (arith, here)
pairs_depth-suc (p ∷ pairs) (suc i) d levels lt before here = omega (arith, before, pairs_depth-suc pairs i d levels (omega arith) (omega (arith, before)) here)

pub items_depth-next : (values : List Value) (i : ℕ) (d : Value) (levels : ℕ) → i < length values → items_depth (items_view (take i values)) ≤ levels → depth (view (get_or values i d)) ≤ levels
    → items_depth (items_view (take (i + 1) values)) ≤ levels
items_depth-next values i d levels lt before here = rw add-one (items_depth-suc values i d levels lt before here)

pub pairs_depth-next : (pairs : List Pair) (i : ℕ) (d : Pair) (levels : ℕ) → i < length pairs → pairs_depth (pairs_view (take i pairs)) ≤ levels → depth (view (get_or pairs i d).1) ≤ levels
    → pairs_depth (pairs_view (take (i + 1) pairs)) ≤ levels
pairs_depth-next pairs i d levels lt before here = rw add-one (pairs_depth-suc pairs i d levels lt before here)

-- a value of which an element nests too deep, or none does
pub array_too_deep : (value : Value) (values : Vec Value Global) (levels inner i : ℕ) (d : Value) → value ≡ Array values → suc inner ≡ levels → i < length values.items
    → inner < depth (view (get_or values.items i d)) → depth (view value) ≤ levels → ⊥
array_too_deep value values levels inner i d is one lt deep within =
    let here = item_depth values.items i d lt in
    let whole : depth (view value) ≡ suc (items_depth (items_view values.items)) = ap (λ v. depth (view v)) is ∙ ap depth (view-Array values) in
    omega arith

pub table_too_deep : (value : Value) (pairs : Vec Pair Global) (levels inner i : ℕ) (d : Pair) → value ≡ Table pairs → suc inner ≡ levels → i < length pairs.items
    → inner < depth (view (get_or pairs.items i d).1) → depth (view value) ≤ levels → ⊥
table_too_deep value pairs levels inner i d is one lt deep within =
    let here = pair_depth pairs.items i d lt in
    let whole : depth (view value) ≡ suc (pairs_depth (pairs_view pairs.items)) = ap (λ v. depth (view v)) is ∙ ap depth (view-Table pairs) in
    omega arith

pub array_within : (value : Value) (values : Vec Value Global) (levels inner i : ℕ) → value ≡ Array values → suc inner ≡ levels → length values.items ≤ i → items_depth (items_view (take i values.items)) ≤ inner
    → depth (view value) ≤ levels
array_within value values levels inner i is one le within =
    let whole : depth (view value) ≡ suc (items_depth (items_view values.items)) = ap (λ v. depth (view v)) is ∙ ap depth (view-Array values) in
    let all : items_depth (items_view values.items) ≤ inner = subst (λ vs. items_depth (items_view vs) ≤ inner) (take_all i values.items le) within in
    omega arith

pub table_within : (value : Value) (pairs : Vec Pair Global) (levels inner i : ℕ) → value ≡ Table pairs → suc inner ≡ levels → length pairs.items ≤ i → pairs_depth (pairs_view (take i pairs.items)) ≤ inner
    → depth (view value) ≤ levels
table_within value pairs levels inner i is one le within =
    let whole : depth (view value) ≡ suc (pairs_depth (pairs_view pairs.items)) = ap (λ v. depth (view v)) is ∙ ap depth (view-Table pairs) in
    let all : pairs_depth (pairs_view pairs.items) ≤ inner = subst (λ ps. pairs_depth (pairs_view ps) ≤ inner) (take_all i pairs.items le) within in
    omega arith

-- a test that failed
pub fails_as : {P : Type 0} → (P → ⊥) → IsTrue false ↔ P
fails_as refuted = (λ t. absurd cc, λ h. absurd (refuted h))

pub above_from : (b : Bool) (n m : ℕ) → (IsTrue b ↔ (n ≤ m)) → b ≡ false → m < n
above_from b n m tells is = elim (cases_lt m n) [ inl lt ↦ lt | inr le ↦ absurd (both_ways b is (tells.1 le)) ]

-- ---- a pair more

pub pairs_depth-with_pair : (pairs : Pairs) (name : List ℕ) (value : Datum) → pairs_depth (with_pair pairs name value) ≡ max (pairs_depth pairs) (depth value)
pairs_depth-with_pair no_pairs name value = omega arith
pairs_depth-with_pair (pair first held pairs) name value = omega (arith, pairs_depth-with_pair pairs name value)

pub pairs_view-push : (pairs : List Pair) (p : Pair) → pairs_view (pairs ++ p ∷ []) ≡ with_pair (pairs_view pairs) p.0 (view p.1)
pairs_view-push [] p = refl
pairs_view-push (first ∷ pairs) p = ap (pair first.0 (view first.1)) (pairs_view-push pairs p)

-- a table stays within its depth, whether or not the pair found room
pub push_within : (old new : List Pair) (p : Pair) (found_room : Bool) → new ≡ cond found_room (old ++ p ∷ []) old → table_depth (pairs_view old) ≤ 32 → depth (view p.1) ≤ 31 → table_depth (pairs_view new) ≤ 32
push_within old new p false is before fits = rw is before
push_within old new p true is before fits =
    let more : pairs_depth (pairs_view (old ++ p ∷ [])) ≡ max (pairs_depth (pairs_view old)) (depth (view p.1)) = ap pairs_depth (pairs_view-push old p) ∙ pairs_depth-with_pair (pairs_view old) p.0 (view p.1) in
    rw is (omega arith)
