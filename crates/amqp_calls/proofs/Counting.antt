-- How many elements octets have at most.
use Rattle.std.proofs.Common.{◌≡◌, ℕ, zero, suc, ◌+◌, ◌-◌, ◌≤◌, ltb, List, [], ◌∷◌, length, take, drop, Ok, refl, sym, ap, ◌∙◌, arith, length-take, length-drop}
use Rattle.byteorder.specs.Endian.{big_number}
use Rattle.amqp_value.specs.Reading.{Reader, many, elements, named, value_at, table_at}
use Rattle.amqp_value.specs.Values.{Datum, Items, item, no_items, items_of, Pairs, pair, no_pairs, pairs_of}
use Rattle.amqp_value.specs.Whole.{items_encoded, AreItems}
use Rattle.amqp_value.proofs.Elements.{bind_ok, guard_ok, ok_is}
use Rattle.amqp_value.proofs.Whole.{ok_or}

pub many_few : {X : Type 0} (read : Reader X) (fuel end : ℕ) (octets : List ℕ) (xs : List X) → many read fuel end octets ≡ Ok xs → length xs ≤ fuel
unfolding many
many_few read fuel end [] xs e = omega (arith, ap length (ok_is [] xs e))
many_few read zero end (octet ∷ octets) xs e = omega (arith, ap length (ok_is [] xs e))
many_few read (suc fuel) end (octet ∷ octets) xs e =
    let a = bind_ok (read end (octet ∷ octets)) _ xs e in
    let b = bind_ok (many read fuel end a.0.1) _ xs a.2 in
    omega (arith, many_few read fuel end a.0.1 b.0 b.1, ap length (ok_is _ xs b.2))

-- each has an octet at least
pub elements_few : {X : Type 0} (read : Reader X) (end : ℕ) (octets : List ℕ) (xs : List X) → elements read end octets ≡ Ok xs → length xs ≤ length octets
unfolding elements
elements_few read end octets xs e = many_few read (length octets) end octets xs e

-- values and pairs, as lists again
values_in : Items → List Datum
values_in no_items = []
values_in (item value items) = value ∷ values_in items

values_back : (values : List Datum) → values_in (items_of values) ≡ values
unfolding values_in
values_back [] = refl
values_back (value ∷ values) = ap (λ (others : List Datum). value ∷ others) (values_back values)

pairs_in : Pairs → List (List ℕ × Datum)
pairs_in no_pairs = []
pairs_in (pair name value pairs) = (name, value) ∷ pairs_in pairs

pairs_back : (pairs : List (List ℕ × Datum)) → pairs_in (pairs_of pairs) ≡ pairs
unfolding pairs_in
pairs_back [] = refl
pairs_back (first ∷ pairs) = ap (λ (others : List (List ℕ × Datum)). first ∷ others) (pairs_back pairs)

pub same_values : (values others : List Datum) → items_of values ≡ items_of others → values ≡ others
same_values values others e = sym (values_back values) ∙ ap values_in e ∙ values_back others

pub same_pairs : (pairs others : List (List ℕ × Datum)) → pairs_of pairs ≡ pairs_of others → pairs ≡ others
same_pairs pairs others e = sym (pairs_back pairs) ∙ ap pairs_in e ∙ pairs_back others

-- an array has no more values than octets
pub items_few : (octets : List ℕ) → AreItems octets → length (items_encoded octets) ≤ length octets
items_few octets whole = elements_few (value_at 31) 0 octets (items_encoded octets) (ok_or (elements (value_at 31) 0 octets) [] whole)

-- a table has no more pairs than octets
pub pairs_few : (octets : List ℕ) (x : Pairs × ℕ) (pairs : List (List ℕ × Datum)) → table_at octets ≡ Ok x → pairs_of pairs ≡ x.0 → length pairs ≤ length octets
unfolding table_at
pairs_few octets x pairs e is =
    let n = big_number 4 octets in
    let body = take n (drop 4 octets) in
    let g = guard_ok (ltb (length octets) 4) _ _ x e in
    let k = guard_ok (ltb (length octets - 4) n) _ _ x g.1 in
    let b = bind_ok (elements (named (value_at 31)) (4 + n) body) _ x k.1 in
    let read : (pairs_of b.0, 4 + n) ≡ x = ok_is _ _ b.2 in
    let same : pairs ≡ b.0 = same_pairs pairs b.0 (is ∙ sym (ap (λ (y : Pairs × ℕ). y.0) read)) in
    let few = elements_few (named (value_at 31)) (4 + n) body b.0 b.1 in
    omega (arith, few, ap length same, length-take n (drop 4 octets), length-drop 4 octets)
