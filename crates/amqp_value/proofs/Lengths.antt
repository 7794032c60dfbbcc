-- Lengths that are counted element by element.
use Rattle.std.proofs.Common.{◌≡◌, ℕ, suc, ◌+◌, ◌<◌, List, [], ◌∷◌, ◌++◌, length, get_or, take, map, sym, ap, ◌∙◌, arith, length-append}
use Rattle.byteorder.specs.Endian.{big_bytes}
use Rattle.amqp_value.specs.Fields.{plain_short_string, plain_long_string}
use Rattle.amqp_value.specs.Lengths.{capped}
use Rattle.amqp_value.specs.Plain.{plain_items, plain_pairs, plain_value}
use Rattle.amqp_value.specs.Values.{items_of, pairs_of}
use Rattle.amqp_value.specs.View.{view, items_view, pairs_view, named_view}
use Rattle.amqp_value.specs.declared.values.Value.{Value}
use Rattle.amqp_value.proofs.Depths.{Pair}
use Rattle.amqp_value.proofs.Written.{plain_items-push, plain_pairs-push, views_next, pair_views_next}

-- what is capped may be capped before it is summed
pub capped_sum : (a b m n : ℕ) → a ≡ capped m → b ≡ capped n → capped (a + b) ≡ capped (m + n)
capped_sum a b m n h k = omega arith

-- a tag, a count, and what it counts
pub counted_length : (whole counted inner : ℕ) (octets : List ℕ) → inner ≡ capped (length octets) → counted ≡ capped (4 + inner) → whole ≡ capped (1 + counted) → whole ≡ capped (suc (length (plain_long_string octets)))
counted_length whole counted inner octets h k l = omega (arith, length-append (big_bytes 4 (length octets)) octets)

pub items_next : (values : List Value) (i : ℕ) (value : Value) (octets here now : ℕ) → i < length values → value ≡ get_or values i value
    → octets ≡ capped (length (plain_items (items_view (take i values)))) → here ≡ capped (length (plain_value (view value))) → now ≡ capped (octets + here)
    → now ≡ capped (length (plain_items (items_view (take (i + 1) values))))
items_next values i value octets here now lt at before is sum =
    let first = map view (take i values) in
    let next : map view (take (i + 1) values) ≡ first ++ view value ∷ [] = views_next values i value lt ∙ ap (λ v. first ++ view v ∷ []) (sym at) in
    let whole : length (plain_items (items_view (take (i + 1) values))) ≡ length (plain_items (items_of first)) + length (plain_value (view value)) =
    ap (λ vs. length (plain_items (items_of vs))) next ∙ ap length (plain_items-push first (view value)) ∙ length-append (plain_items (items_of first)) (plain_value (view value)) in
    omega arith

pub pairs_next : (pairs : List Pair) (i : ℕ) (p : Pair) (octets name named here now : ℕ) → i < length pairs → p ≡ get_or pairs i p
    → octets ≡ capped (length (plain_pairs (pairs_view (take i pairs)))) → name ≡ length (plain_short_string p.0) → named ≡ capped (octets + name)
    → here ≡ capped (length (plain_value (view p.1))) → now ≡ capped (named + here)
    → now ≡ capped (length (plain_pairs (pairs_view (take (i + 1) pairs))))
pairs_next pairs i p octets name named here now lt at before named_is sum is next_sum =
    let first = map named_view (take i pairs) in
    let more = plain_short_string p.0 ++ plain_value (view p.1) in
    let next : map named_view (take (i + 1) pairs) ≡ first ++ named_view p ∷ [] = pair_views_next pairs i p lt ∙ ap (λ v. first ++ named_view v ∷ []) (sym at) in
    let whole : length (plain_pairs (pairs_view (take (i + 1) pairs))) ≡ length (plain_pairs (pairs_of first)) + length more =
    ap (λ ps. length (plain_pairs (pairs_of ps))) next ∙ ap length (plain_pairs-push first p.0 (view p.1)) ∙ length-append (plain_pairs (pairs_of first)) more in
    let both : length more ≡ length (plain_short_string p.0) + length (plain_value (view p.1)) = length-append (plain_short_string p.0) (plain_value (view p.1)) in
    omega arith
