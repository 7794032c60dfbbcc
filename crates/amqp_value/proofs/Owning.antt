-- Going over whole elements one after the other, as a loop does that keeps them.
use Rattle.std.proofs.Common.{◌≡◌, inl, inr, ℕ, false, ◌==◌, ◌≤◌, ◌<◌, List, [], ◌∷◌, ◌++◌, length, Ok, refl, sym, ap, subst, ◌∙◌, append_assoc, arith}
use Rattle.std.proofs.lemmas.Bool.{cases_Bool, eqb-true}
use Rattle.std.proofs.lemmas.List.{append-nil}
use Rattle.amqp_value.specs.Reading.{AddsOne, named, value_at}
use Rattle.amqp_value.specs.Pairs.{pair_count}
use Rattle.amqp_value.specs.Values.{Datum, pairs_of}
use Rattle.amqp_value.specs.Whole.{items_encoded, pairs_encoded, AreItems, ArePairs, BeginsPair, BeginsName, BeginsValue}
use Rattle.amqp_value.specs.Reading.{name_at}
use Rattle.amqp_value.proofs.Elements.{ok_is, value_at-consumes, pair-consumes}
use Rattle.amqp_value.proofs.Whole.{first-item, first-pair, no-items, no-pairs, name-parts, has_read, is_read}

-- what is left after an element
pub record Next {X : Type 0} (octets after : List ℕ) (whole : List ℕ → Type 0) (list : List ℕ → List X) (element : X) : Type 0 where
  pub shorter : length after < length octets
  pub are_whole : whole after
  pub list_is : list octets ≡ element ∷ list after

pub next-item : (octets after : List ℕ) (value : Datum) → AreItems octets → 0 < length octets → value_at 31 0 octets ≡ Ok (value, after) → Next octets after AreItems items_encoded value
next-item octets after value whole long read =
    let one = first-item octets whole long in
    let same : (one.element, one.after) ≡ (value, after) = ok_is _ _ (sym one.is_read ∙ read) in
    let P : Datum × List ℕ → Type 0 = λ x. Next octets x.1 AreItems items_encoded x.0 in
    subst P same (record { shorter = (value_at-consumes 31 0).consumes octets (one.element, one.after) one.is_read; are_whole = one.others; list_is = one.list })

pub next-pair : (octets after : List ℕ) (value : List ℕ × Datum) → ArePairs octets → 0 < length octets → named (value_at 31) 0 octets ≡ Ok (value, after) → Next octets after ArePairs pairs_encoded value
next-pair octets after value whole long read =
    let one = first-pair octets whole long in
    let same : (one.element, one.after) ≡ (value, after) = ok_is _ _ (sym one.is_read ∙ read) in
    let P : (List ℕ × Datum) × List ℕ → Type 0 = λ x. Next octets x.1 ArePairs pairs_encoded x.0 in
    subst P same (record { shorter = (pair-consumes 31 0).consumes octets (one.element, one.after) one.is_read; are_whole = one.others; list_is = one.list })

pub begins-item : (octets : List ℕ) → AreItems octets → 0 < length octets → BeginsValue octets
begins-item octets whole long = let one = first-item octets whole long in is_read (value_at 31 0 octets) (one.element, one.after) one.is_read

pub begins-pair : (octets : List ℕ) → ArePairs octets → 0 < length octets → BeginsPair octets
begins-pair octets whole long = let one = first-pair octets whole long in is_read (named (value_at 31) 0 octets) (one.element, one.after) one.is_read

pub pair-name : (octets : List ℕ) → BeginsPair octets → BeginsName octets
pair-name octets h =
    let x = has_read (named (value_at 31) 0 octets) h in
    let parts = name-parts octets x.0 x.1 in
    is_read (name_at 0 octets) (x.0.0.0, parts.field) parts.name_is

pub pair-value : (octets name field : List ℕ) → BeginsPair octets → name_at 0 octets ≡ Ok (name, field) → BeginsValue field
pair-value octets name field h read =
    let x = has_read (named (value_at 31) 0 octets) h in
    let parts = name-parts octets x.0 x.1 in
    let same : (x.0.0.0, parts.field) ≡ (name, field) = ok_is _ _ (sym parts.name_is ∙ read) in
    subst BeginsValue (ap (λ (y : List ℕ × List ℕ). y.1) same) (is_read (value_at 31 0 parts.field) (x.0.0.1, x.0.1) parts.value_is)

-- the elements kept, and those that are left
pub keeps : {X : Type 0} (kept left total : List X) (element : X) (others : List X) → left ≡ element ∷ others → kept ++ left ≡ total → (kept ++ element ∷ []) ++ others ≡ total
keeps kept left total element others is so_far = append_assoc kept (element ∷ []) others ∙ ap (λ xs. kept ++ xs) (sym is) ∙ so_far

-- a pair that was added
pub adds : (body octets after : List ℕ) (kept longer : List (List ℕ × Datum)) → AddsOne kept (named (value_at 31) 0 octets) after longer → ArePairs octets → 0 < length octets → length octets ≤ length body
    → kept ++ pairs_encoded octets ≡ pairs_encoded body → (length after ≤ length body) × ArePairs after × (longer ++ pairs_encoded after ≡ pairs_encoded body)
adds body octets after kept longer one whole long within so_far =
    let next = next-pair octets after one.element whole long one.is_read in (
      omega (arith, next.shorter),
      next.are_whole,
      rw one.is_added (keeps kept (pairs_encoded octets) (pairs_encoded body) one.element (pairs_encoded after) next.list_is so_far),
    )

pub all-items : (octets : List ℕ) (kept total : List Datum) → length octets ≡ 0 → kept ++ items_encoded octets ≡ total → kept ≡ total
all-items octets kept total none so_far = sym (append-nil kept) ∙ ap (λ xs. kept ++ xs) (sym (no-items octets none)) ∙ so_far

pub all-pairs : (octets : List ℕ) (kept total : List (List ℕ × Datum)) → length octets ≡ 0 → kept ++ pairs_encoded octets ≡ total → kept ≡ total
all-pairs octets kept total none so_far = sym (append-nil kept) ∙ ap (λ xs. kept ++ xs) (sym (no-pairs octets none)) ∙ so_far

-- what is above 0 is not 0
pub positive : (n : ℕ) → 0 < n → (n == 0) ≡ false
positive n above = elim (cases_Bool (n == 0)) [ inl none ↦ absurd (omega (arith, eqb-true n 0 none)) | inr some ↦ some ]

-- a table has pairs where octets stand after its count
pub none-or-some : (octets : List ℕ) → ArePairs octets → (length octets == 0) ≡ (pair_count (pairs_of (pairs_encoded octets)) == 0)
none-or-some [] whole = sym (ap (λ pairs. pair_count (pairs_of pairs) == 0) (no-pairs [] refl))
none-or-some (octet ∷ octets) whole =
    let count = ap (λ pairs. pair_count (pairs_of pairs)) (first-pair (octet ∷ octets) whole (omega arith)).list in
    positive (length (octet ∷ octets)) (omega arith) ∙ sym (positive (pair_count (pairs_of (pairs_encoded (octet ∷ octets)))) (omega (arith, count)))
