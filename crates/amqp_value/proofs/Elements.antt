-- Reading elements one after the other, as a loop does.
use Rattle.std.proofs.Common.{◌≡◌, ℕ, zero, suc, ◌+◌, ◌-◌, ◌≤◌, ◌<◌, ◌==◌, Bool, true, false, cond, ltb, List, [], ◌∷◌}
use Rattle.std.proofs.Common.{length, take, drop, Option, Some, None, Result, Ok, Err, refl, sym, ap, ◌∙◌, arith, inl}
use Rattle.std.proofs.Common.{inr, length-drop}
use Rattle.std.proofs.lemmas.Bool.{eqb-true, cases_lt}
use Rattle.std.proofs.lemmas.List.{drop-drop, drop_all}
use Rattle.byteorder.specs.Endian.{big_number}
use Rattle.amqp_value.specs.Reading.{◌>>=◌, Reader, prefix_of, counted, name_at, many, elements, named, after_tag, tagged, tag_of, value_at}
use Rattle.amqp_value.specs.Values.{Datum}
use Rattle.amqp_value.specs.declared.fault.ValueFault.{ValueFault}
use Rattle.amqp_value.specs.declared.tag.Tag.{Tag}
use Rattle.amqp_value.specs.declared.tag.Tag.TheVariants.{Fixed, LongString, ByteArray, Array, Table}

-- the value of a step that did not fail
pub bind_ok : {A B E : Type 0} (r : Result A E) (f : A → Result B E) (y : B) → (r >>= f) ≡ Ok y → (x : A) × (r ≡ Ok x) × (f x ≡ Ok y)
bind_ok (Ok x) f y e = (x, refl, e)
bind_ok (Err d) f y e = absurd cc

-- two steps that go on alike
pub bind_same : {A B E : Type 0} (r : Result A E) (f g : A → Result B E) → ((x : A) → r ≡ Ok x → f x ≡ g x) → (r >>= f) ≡ (r >>= g)
bind_same (Ok x) f g same = same x refl
bind_same (Err d) f g same = refl

-- a test that did not fail
pub guard_ok : {A E : Type 0} (b : Bool) (d : E) (r : Result A E) (y : A) → cond b (Err d) r ≡ Ok y → (b ≡ false) × (r ≡ Ok y)
guard_ok true d r y e = absurd cc
guard_ok false d r y e = (refl, e)

abbrev done : {A : Type 0} → A → Result A ValueFault
done x = Ok x

pub ok_is : {A : Type 0} (x y : A) → done x ≡ done y → x ≡ y
ok_is x y e = cc

-- octets with which others end
abbrev pub IsEnd : List ℕ → List ℕ → Type 0
IsEnd after octets = (n : ℕ) × (after ≡ drop n octets)

-- what is read has an octet at least, and the octets end with those after it
pub record Consumes {X : Type 0} (read : Reader X) (end : ℕ) : Type 0 where
  pub consumes : (octets : List ℕ) (x : X × List ℕ) → read end octets ≡ Ok x → length x.1 < length octets
  pub leaves : (octets : List ℕ) (x : X × List ℕ) → read end octets ≡ Ok x → IsEnd x.1 octets

many-fuel : {X : Type 0} (read : Reader X) (end : ℕ) → Consumes read end → (f g : ℕ) (octets : List ℕ) → length octets ≤ f → length octets ≤ g → many read f end octets ≡ many read g end octets
unfolding many
many-fuel read end h f g [] p q = refl
many-fuel read end h zero g (octet ∷ octets) p q = absurd (omega arith)
many-fuel read end h (suc f) zero (octet ∷ octets) p q = absurd (omega arith)
many-fuel read end h (suc f) (suc g) (octet ∷ octets) p q =
    bind_same (read end (octet ∷ octets)) _ _ (λ x e.
    let shorter : length x.1 < length (octet ∷ octets) = h.consumes (octet ∷ octets) x e in
    ap (λ r. r >>= λ others. Ok (x.0 ∷ others)) (many-fuel read end h f g x.1 (omega arith) (omega arith)))

pub elements-nil : {X : Type 0} (read : Reader X) (end : ℕ) → elements read end [] ≡ Ok []
unfolding elements many
elements-nil read end = refl

pub elements-next : {X : Type 0} (read : Reader X) (end : ℕ) → Consumes read end → (octets : List ℕ) → 0 < length octets
    → elements read end octets ≡ (read end octets >>= λ x. elements read end x.1 >>= λ others. Ok (x.0 ∷ others))
unfolding elements many
elements-next read end h [] long = absurd (omega arith)
elements-next read end h (octet ∷ octets) long =
    bind_same (read end (octet ∷ octets)) _ _ (λ x e.
    let shorter : length x.1 < length (octet ∷ octets) = h.consumes (octet ∷ octets) x e in
    ap (λ r. r >>= λ others. Ok (x.0 ∷ others)) (many-fuel read end h (length octets) (length x.1) x.1 (omega arith) (omega arith)))

-- ---- what a field leaves

-- octets that others end with are the last of them, as many as they are
pub IsEnd-last : (after octets : List ℕ) → IsEnd after octets → after ≡ drop (length octets - length after) octets
IsEnd-last after octets (n, e) =
    elim (cases_lt n (length octets)) [
      | inl lt ↦ let same : length octets - length after ≡ n = omega (arith, ap length e, length-drop n octets) in e ∙ ap (λ m. drop m octets) (sym same)
      | inr le ↦
          let none : length after ≡ 0 = omega (arith, ap length e, length-drop n octets) in
          let all : drop (length octets - length after) octets ≡ [] = drop_all _ octets (omega arith) in
          e ∙ drop_all n octets le ∙ sym all
    ]

IsEnd-shorter : (after octets : List ℕ) → IsEnd after octets → length after ≤ length octets
IsEnd-shorter after octets (n, e) = rw e (omega (arith, length-drop n octets))

IsEnd-trans : (after rest octets : List ℕ) → IsEnd after rest → IsEnd rest octets → IsEnd after octets
IsEnd-trans after rest octets (n, e) (m, f) = (m + n, e ∙ ap (drop n) f ∙ drop-drop n m octets)

prefix_of-leaves : (n end : ℕ) (octets : List ℕ) (x : List ℕ × List ℕ) → prefix_of n end octets ≡ Ok x → IsEnd x.1 octets
prefix_of-leaves n end octets x e =
    let g = guard_ok (ltb (length octets) n) _ _ x e in
    let is : (take n octets, drop n octets) ≡ x = ok_is _ _ g.1 in
    (n, ap (λ y. y.1) (sym is))

counted-leaves : (end : ℕ) (octets : List ℕ) (x : List ℕ × List ℕ) → counted end octets ≡ Ok x → IsEnd x.1 octets
counted-leaves end octets x e =
    let g = guard_ok (ltb (length octets) 4) _ _ x e in
    let k = guard_ok (ltb (length octets - 4) (big_number 4 octets)) _ _ x g.1 in
    let n = big_number 4 octets in
    let is : (take n (drop 4 octets), drop n (drop 4 octets)) ≡ x = ok_is _ _ k.1 in
    (4 + n, ap (λ y. y.1) (sym is) ∙ drop-drop n 4 octets)

name_at-consumes : (end : ℕ) → Consumes name_at end
name_at-consumes end = record { consumes = name_at-shorter end; leaves = name_at-leaves end }
  where
    name_at-leaves : (end : ℕ) (octets : List ℕ) (x : List ℕ × List ℕ) → name_at end octets ≡ Ok x → IsEnd x.1 octets
    name_at-leaves end [] x e = absurd cc
    name_at-leaves end (n ∷ octets) x e =
        let g = guard_ok (ltb (length octets) n) _ _ x e in
        let is : (take n octets, drop n octets) ≡ x = ok_is _ _ g.1 in
        (suc n, ap (λ y. y.1) (sym is))

    name_at-shorter : (end : ℕ) (octets : List ℕ) (x : List ℕ × List ℕ) → name_at end octets ≡ Ok x → length x.1 < length octets
    name_at-shorter end [] x e = absurd cc
    name_at-shorter end (n ∷ octets) x e =
        let g = guard_ok (ltb (length octets) n) _ _ x e in
        let is : (take n octets, drop n octets) ≡ x = ok_is _ _ g.1 in
        rw (← is) (omega (arith, length-drop n octets))

after_tag-leaves : (inner : Option (Reader Datum)) (end : ℕ) (octets rest : List ℕ) (tag : Option Tag) (x : Datum × List ℕ) → after_tag inner end octets rest tag ≡ Ok x → IsEnd x.1 rest
unfolding after_tag
after_tag-leaves inner end octets rest None x e = absurd cc
after_tag-leaves inner end octets rest (Some (Fixed tag)) x e =
    let b = bind_ok (prefix_of _ end rest) _ x e in
    rw (← ok_is _ _ b.2) (prefix_of-leaves _ end rest b.0 b.1)
after_tag-leaves inner end octets rest (Some LongString) x e =
    let b = bind_ok (counted end rest) _ x e in
    rw (← ok_is _ _ b.2) (counted-leaves end rest b.0 b.1)
after_tag-leaves inner end octets rest (Some ByteArray) x e =
    let b = bind_ok (counted end rest) _ x e in
    rw (← ok_is _ _ b.2) (counted-leaves end rest b.0 b.1)
after_tag-leaves None end octets rest (Some Array) x e = absurd cc
after_tag-leaves (Some read) end octets rest (Some Array) x e =
    let b = bind_ok (counted end rest) _ x e in
    let d = bind_ok (elements read (end - length b.0.1) b.0.0) _ x b.2 in
    rw (← ok_is _ _ d.2) (counted-leaves end rest b.0 b.1)
after_tag-leaves None end octets rest (Some Table) x e = absurd cc
after_tag-leaves (Some read) end octets rest (Some Table) x e =
    let b = bind_ok (counted end rest) _ x e in
    let d = bind_ok (elements (named read) (end - length b.0.1) b.0.0) _ x b.2 in
    rw (← ok_is _ _ d.2) (counted-leaves end rest b.0 b.1)

tagged-consumes : (inner : Option (Reader Datum)) (end : ℕ) → Consumes (tagged inner) end
unfolding tagged
tagged-consumes inner end = record { consumes = tagged-shorter inner end; leaves = tagged-leaves inner end }
  where
    tagged-leaves : (inner : Option (Reader Datum)) (end : ℕ) (octets : List ℕ) (x : Datum × List ℕ) → tagged inner end octets ≡ Ok x → IsEnd x.1 octets
    tagged-leaves inner end [] x e = absurd cc
    tagged-leaves inner end (octet ∷ rest) x e = IsEnd-trans x.1 rest (octet ∷ rest) (after_tag-leaves inner end (octet ∷ rest) rest (tag_of octet) x e) (1, refl)

    tagged-shorter : (inner : Option (Reader Datum)) (end : ℕ) (octets : List ℕ) (x : Datum × List ℕ) → tagged inner end octets ≡ Ok x → length x.1 < length octets
    tagged-shorter inner end [] x e = absurd cc
    tagged-shorter inner end (octet ∷ rest) x e = omega (arith, IsEnd-shorter x.1 rest (after_tag-leaves inner end (octet ∷ rest) rest (tag_of octet) x e))

pub value_at-consumes : (levels end : ℕ) → Consumes (value_at levels) end
unfolding value_at
value_at-consumes zero end = tagged-consumes None end
value_at-consumes (suc levels) end = tagged-consumes (Some (value_at levels)) end

named-shorter : {X : Type 0} (read : Reader X) (end : ℕ) → Consumes read end → (octets : List ℕ) (x : (List ℕ × X) × List ℕ) → named read end octets ≡ Ok x → length x.1 < length octets
unfolding named
named-shorter read end h octets x e =
    let b = bind_ok (name_at end octets) _ x e in
    let d = bind_ok (read end b.0.1) _ x b.2 in
    let first = (name_at-consumes end).consumes octets b.0 b.1 in
    let second = h.consumes b.0.1 d.0 d.1 in
    rw (← ok_is _ _ d.2) (omega arith)

named-leaves : {X : Type 0} (read : Reader X) (end : ℕ) → Consumes read end → (octets : List ℕ) (x : (List ℕ × X) × List ℕ) → named read end octets ≡ Ok x → IsEnd x.1 octets
unfolding named
named-leaves read end h octets x e =
    let b = bind_ok (name_at end octets) _ x e in
    let d = bind_ok (read end b.0.1) _ x b.2 in
    rw (← ok_is _ _ d.2) (IsEnd-trans d.0.1 b.0.1 octets (h.leaves b.0.1 d.0 d.1) ((name_at-consumes end).leaves octets b.0 b.1))

pub named-consumes : {X : Type 0} (read : Reader X) (end : ℕ) → Consumes read end → Consumes (named read) end
named-consumes read end h = record { consumes = named-shorter read end h; leaves = named-leaves read end h }

pub pair-consumes : (levels end : ℕ) → Consumes (named (value_at levels)) end
pair-consumes levels end = named-consumes (value_at levels) end (value_at-consumes levels end)

-- ---- a name, and what is read after it

pub named-ok : {X : Type 0} (read : Reader X) (end : ℕ) (octets name field after : List ℕ) (x : X)
    → name_at end octets ≡ Ok (name, field) → read end field ≡ Ok (x, after) → named read end octets ≡ Ok ((name, x), after)
unfolding named
named-ok read end octets name field after x first second = rw (first, second) refl

-- ---- what `is_empty` says

pub some_left : (octets : List ℕ) (b : Bool) → b ≡ (length octets == 0) → b ≡ false → 0 < length octets
some_left [] b e f = absurd cc
some_left (octet ∷ octets) b e f = omega arith

pub none_left : (octets : List ℕ) (b : Bool) → b ≡ (length octets == 0) → b ≡ true → length octets ≡ 0
none_left octets b e f = eqb-true (length octets) 0 (sym e ∙ f)
