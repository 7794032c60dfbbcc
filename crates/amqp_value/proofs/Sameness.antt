-- Comparing values one after the other, and that being the same is being equal.
use Rattle.std.proofs.Common.{◌≡◌, ℕ, ◌==◌, ◌&&◌, not, ◌<◌, Bool, true, false, List, [], ◌∷◌, length, refl, sym, ap, arith}
use Rattle.std.specs.Str.{bytes_eq}
use Rattle.amqp_value.specs.Same.{same_datum, same_items, same_pairs}
use Rattle.amqp_value.specs.Values.{Datum, items_of, pairs_of}
use Rattle.amqp_value.specs.Whole.{items_encoded, pairs_encoded, AreItems, ArePairs}
use Rattle.amqp_value.proofs.Owning.{Next, positive}
use Rattle.amqp_value.proofs.Whole.{first-item, first-pair, no-items, no-pairs}

-- whether the values are the same that two rows of octets encode, and the pairs
abbrev pub items_alike : List ℕ → List ℕ → Bool
items_alike octets others = same_items (items_of (items_encoded octets)) (items_of (items_encoded others))

abbrev pub pairs_alike : List ℕ → List ℕ → Bool
pairs_alike octets others = same_pairs (pairs_of (pairs_encoded octets)) (pairs_of (pairs_encoded others))

-- ---- the first of both

pub items-first : (octets after others behind : List ℕ) (value other : Datum) → Next octets after AreItems items_encoded value → Next others behind AreItems items_encoded other
    → items_alike octets others ≡ (same_datum value other && items_alike after behind)
items-first octets after others behind value other a b = rw (a.list_is, b.list_is) refl

pub pairs-first : (octets after others behind : List ℕ) (pair other : List ℕ × Datum) → Next octets after ArePairs pairs_encoded pair → Next others behind ArePairs pairs_encoded other
    → pairs_alike octets others ≡ (bytes_eq pair.0 other.0 && (same_datum pair.1 other.1 && pairs_alike after behind))
pairs-first octets after others behind pair other a b = rw (a.list_is, b.list_is) refl

-- ---- none are left of the one, or of the other

pub items-more : (octets others : List ℕ) → AreItems octets → 0 < length octets → length others ≡ 0 → items_alike octets others ≡ false
items-more octets others whole long none = rw ((first-item octets whole long).list, no-items others none) refl

pub pairs-more : (octets others : List ℕ) → ArePairs octets → 0 < length octets → length others ≡ 0 → pairs_alike octets others ≡ false
pairs-more octets others whole long none = rw ((first-pair octets whole long).list, no-pairs others none) refl

pub items-end : (octets others : List ℕ) → AreItems others → length octets ≡ 0 → (length others == 0) ≡ items_alike octets others
items-end octets [] whole none = rw (no-items octets none, no-items [] refl) refl
items-end octets (octet ∷ others) whole none = rw (no-items octets none, (first-item (octet ∷ others) whole (omega arith)).list) (positive (length (octet ∷ others)) (omega arith))

pub pairs-end : (octets others : List ℕ) → ArePairs others → length octets ≡ 0 → (length others == 0) ≡ pairs_alike octets others
pairs-end octets [] whole none = rw (no-pairs octets none, no-pairs [] refl) refl
pairs-end octets (octet ∷ others) whole none = rw (no-pairs octets none, (first-pair (octet ∷ others) whole (omega arith)).list) (positive (length (octet ∷ others)) (omega arith))

-- ---- what follows of the first of both

pub other-name : (name value later : Bool) → true ≡ not name → (name && (value && later)) ≡ false
other-name true value later e = absurd cc
other-name false value later e = refl

pub other-value : (name value later : Bool) → false ≡ value → (name && (value && later)) ≡ false
other-value true value later e = ap (λ v. v && later) (sym e)
other-value false value later e = refl

pub same-pair : (name value later : Bool) → false ≡ not name → true ≡ value → (name && (value && later)) ≡ later
same-pair true value later n e = ap (λ v. v && later) (sym e)
same-pair false value later n e = absurd cc
