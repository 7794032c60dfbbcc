-- Texts of values and pairs that are lent, one after the other, as a loop writes them.
use Rattle.std.proofs.Common.{◌≡◌, ℕ, suc, List, [], ◌++◌, length, refl, sym, ap, ◌∙◌, append_assoc}
use Rattle.std.proofs.lemmas.List.{append-nil}
use Rattle.std.specs.Prelude.{codes}
use Rattle.amqp_value.specs.Text.{quoted, comma_before, value_text, items_text_from, pairs_text_from}
use Rattle.amqp_value.specs.Values.{Datum, items_of, pairs_of}
use Rattle.amqp_value.specs.Whole.{items_encoded, pairs_encoded, AreItems, ArePairs}
use Rattle.amqp_value.proofs.Owning.{Next}
use Rattle.amqp_value.proofs.Whole.{no-items, no-pairs}

-- the texts of what octets encode, where n were written before
abbrev pub items_left_text : ℕ → List ℕ → List ℕ
items_left_text n octets = items_text_from n (items_of (items_encoded octets))

abbrev pub pairs_left_text : ℕ → List ℕ → List ℕ
pairs_left_text n octets = pairs_text_from n (pairs_of (pairs_encoded octets))

-- after one more
pub item-written : (text comma whole octets after : List ℕ) (n : ℕ) (value : Datum) → Next octets after AreItems items_encoded value → comma ≡ comma_before n → text ++ items_left_text n octets ≡ whole
    → (text ++ (comma ++ value_text value)) ++ items_left_text (suc n) after ≡ whole
item-written text comma whole octets after n value a is so_far =
    let first : items_left_text n octets ≡ comma_before n ++ (value_text value ++ items_left_text (suc n) after) = rw a.list_is refl in
    let left = items_left_text (suc n) after in
    let regrouped : (text ++ (comma_before n ++ value_text value)) ++ left ≡ text ++ (comma_before n ++ (value_text value ++ left)) = simp append_assoc in
    ap (λ c. (text ++ (c ++ value_text value)) ++ left) is
    ∙ regrouped
    ∙ ap (λ o. text ++ o) (sym first)
    ∙ so_far

pub pair-written : (text comma whole octets after : List ℕ) (n : ℕ) (pair : List ℕ × Datum) → Next octets after ArePairs pairs_encoded pair → comma ≡ comma_before n → text ++ pairs_left_text n octets ≡ whole
    → (text ++ (comma ++ ((quoted pair.0 ++ codes "=") ++ value_text pair.1))) ++ pairs_left_text (suc n) after ≡ whole
pair-written text comma whole octets after n pair a is so_far =
    let first : pairs_left_text n octets ≡ comma_before n ++ ((quoted pair.0 ++ codes "=") ++ (value_text pair.1 ++ pairs_left_text (suc n) after)) = rw a.list_is refl in
    let name = quoted pair.0 ++ codes "=" in
    let left = pairs_left_text (suc n) after in
    let regrouped : (text ++ (comma_before n ++ (name ++ value_text pair.1))) ++ left ≡ text ++ (comma_before n ++ (name ++ (value_text pair.1 ++ left))) = simp append_assoc in
    ap (λ c. (text ++ (c ++ (name ++ value_text pair.1))) ++ left) is
    ∙ regrouped
    ∙ ap (λ o. text ++ o) (sym first)
    ∙ so_far

-- none are left
pub items-written : (text whole octets : List ℕ) (n : ℕ) → length octets ≡ 0 → text ++ items_left_text n octets ≡ whole → text ≡ whole
items-written text whole octets n none so_far =
    let end : items_left_text n octets ≡ [] = rw (no-items octets none) refl in
    sym (append-nil text) ∙ ap (λ o. text ++ o) (sym end) ∙ so_far

pub pairs-written : (text whole octets : List ℕ) (n : ℕ) → length octets ≡ 0 → text ++ pairs_left_text n octets ≡ whole → text ≡ whole
pairs-written text whole octets n none so_far =
    let end : pairs_left_text n octets ≡ [] = rw (no-pairs octets none) refl in
    sym (append-nil text) ∙ ap (λ o. text ++ o) (sym end) ∙ so_far
