-- Octets that are staged aside, after the others.
use Rattle.std.proofs.Common.{◌≡◌, ℕ, ◌+◌, ◌-◌, ◌≤◌, List, [], ◌∷◌, ◌++◌, length, take, drop, vec_capacity, refl, sym, ap, ap₂, ◌∙◌, arith, append_assoc, append-nil, length-drop}
use Rattle.std.proofs.lemmas.List.{take-append-le, drop-append-le, drop-take}
use Rattle.amqp_outbox.specs.OutboxFields.{AsideFits}
use Rattle.amqp_outbox.specs.declared.outbox.Outbox.TheInside.{Inside}

-- a part of what stands in front is the same of all
pub in-front : (xs ys : List ℕ) (from to : ℕ) → from ≤ to → to ≤ length xs → take (to - from) (drop from xs) ≡ take (to - from) (drop from (xs ++ ys))
in-front xs ys from to h k =
    sym (drop-take from (to - from) xs)
    ∙ (ap (drop from) (sym (take-append-le (from + (to - from)) xs ys (omega arith))) ∙ drop-take from (to - from) (xs ++ ys))

-- the first of what stands in front are dropped
pub dropped-in-front : (xs ys new : List ℕ) (n : ℕ) → n ≤ length xs → new ≡ drop n xs → new ++ ys ≡ drop n (xs ++ ys)
dropped-in-front xs ys new n h e = ap (λ zs. zs ++ ys) e ∙ sym (drop-append-le n xs ys h)

-- what stands aside is dropped, and what stands in front from a place on
pub cut-in-front : (xs ys new none : List ℕ) (n : ℕ) → n ≤ length xs → new ≡ take n xs → none ≡ [] → new ++ none ≡ take n (xs ++ ys)
cut-in-front xs ys new none n h e f = ap₂ (λ zs ws. zs ++ ws) e f ∙ (append-nil (take n xs) ∙ sym (take-append-le n xs ys h))

-- a part is appended aside
pub more-aside : (xs ys new front part : List ℕ) → front ≡ xs → new ≡ ys ++ part → front ++ new ≡ (xs ++ ys) ++ part
more-aside xs ys new front part e f = ap₂ (λ zs ws. zs ++ ws) e f ∙ sym (append_assoc xs ys part)

-- a part is appended in front, where nothing stands aside
pub more-in-front : (xs ys new part : List ℕ) → ys ≡ [] → new ≡ xs ++ part → new ++ ys ≡ (xs ++ ys) ++ part
more-in-front xs ys new part none e =
    ap₂ (λ zs ws. zs ++ ws) e none
    ∙ (append-nil (xs ++ part) ∙ ap (λ zs. zs ++ part) (sym (append-nil xs) ∙ ap (λ ws. xs ++ ws) (sym none)))

-- nothing stands aside any more
pub none-aside : (xs none : List ℕ) → none ≡ [] → xs ++ none ≡ xs
none-aside xs none e = ap (λ ws. xs ++ ws) e ∙ append-nil xs

-- where nothing stands aside, there is room for it
pub aside-empty : (x : Inside) → x.aside.items ≡ [] → x.arranged ≤ length x.octets.items → AsideFits x
aside-empty x none row =
    let a = ap length none in
    let b = x.octets.ok.0 in
    let c = x.octets.ok.1 in
    record { row = row; room = omega arith }

-- the octets that are written are dropped
pub fits-dropped : (x y : Inside) → AsideFits x → x.written ≤ x.arranged → y.octets.items ≡ drop x.written x.octets.items → vec_capacity y.octets ≡ vec_capacity x.octets → y.aside.items ≡ x.aside.items → y.arranged ≡ x.arranged - x.written → AsideFits y
fits-dropped x y f order octets capacity aside arranged =
    let a = ap length octets ∙ length-drop x.written x.octets.items in
    let b = ap length aside in
    let c = f.row in
    let d = f.room in
    record { row = omega arith; room = omega arith }

-- neither the octets nor the row end elsewhere
pub fits-still : (x y : Inside) → AsideFits x → y.octets.items ≡ x.octets.items → vec_capacity x.octets ≤ vec_capacity y.octets → length y.octets.items + length y.aside.items ≤ vec_capacity y.octets → y.arranged ≡ x.arranged → AsideFits y
fits-still x y f octets capacity room arranged =
    let a = ap length octets in
    let b = f.row in
    record { row = omega arith; room = room }

-- a list without length
pub no-length : (xs : List ℕ) → length xs ≡ 0 → xs ≡ []
no-length [] e = refl
no-length (x ∷ xs) e = absurd (omega arith)
