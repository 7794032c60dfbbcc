-- Texts of elements, one after the other, as a loop writes them.
use Rattle.std.proofs.Common.{◌≡◌, ℕ, zero, suc, ◌+◌, ◌<◌, List, [], ◌∷◌, ◌++◌, length, get_or, take, sym, ap, ◌∙◌, add-one, append_assoc, arith}
use Rattle.std.proofs.lemmas.List.{append-nil}
use Rattle.std.specs.Prelude.{codes}
use Rattle.amqp_value.specs.Text.{quoted, comma_before, value_text, items_text, items_text_from, pairs_text, pairs_text_from}
use Rattle.amqp_value.specs.View.{view, items_view, pairs_view}
use Rattle.amqp_value.specs.declared.values.Value.{Value}
use Rattle.amqp_value.proofs.Depths.{Pair}

-- the text of a name and its value
abbrev pub pair_text : Pair → List ℕ
pair_text p = (quoted p.0 ++ codes "=") ++ value_text (view p.1)

items_text_from-next : (m k : ℕ) (values : List Value) (n : ℕ) (value : Value) → m + n ≡ k → n < length values → value ≡ get_or values n value
    → items_text_from m (items_view (take (suc n) values)) ≡ items_text_from m (items_view (take n values)) ++ (comma_before k ++ value_text (view value))
items_text_from-next m k [] n value at lt is = absurd (omega arith)
items_text_from-next m k (v ∷ values) zero value at lt is =
    let same : m ≡ k = omega arith in rw (same, is) (ap (λ o. comma_before k ++ o) (append-nil (value_text (view v))))
items_text_from-next m k (v ∷ values) (suc n) value at lt is =
    ap (λ o. comma_before m ++ (value_text (view v) ++ o)) (items_text_from-next (suc m) k values n value (omega arith) (omega arith) is) ∙ simp append_assoc

pairs_text_from-next : (m k : ℕ) (pairs : List Pair) (n : ℕ) (p : Pair) → m + n ≡ k → n < length pairs → p ≡ get_or pairs n p
    → pairs_text_from m (pairs_view (take (suc n) pairs)) ≡ pairs_text_from m (pairs_view (take n pairs)) ++ (comma_before k ++ pair_text p)
pairs_text_from-next m k [] n p at lt is = absurd (omega arith)
pairs_text_from-next m k (first ∷ pairs) zero p at lt is =
    let same : m ≡ k = omega arith in rw (same, is) (ap (λ o. comma_before k ++ ((quoted first.0 ++ codes "=") ++ o)) (append-nil (value_text (view first.1))))
pairs_text_from-next m k (first ∷ pairs) (suc n) p at lt is =
    ap (λ o. comma_before m ++ ((quoted first.0 ++ codes "=") ++ (value_text (view first.1) ++ o))) (pairs_text_from-next (suc m) k pairs n p (omega arith) (omega arith) is) ∙ simp append_assoc

-- the text after a value more
pub items_text-next : (values : List Value) (n : ℕ) (value : Value) → n < length values → value ≡ get_or values n value
    → items_text (items_view (take n values)) ++ (comma_before n ++ value_text (view value)) ≡ items_text (items_view (take (n + 1) values))
items_text-next values n value lt is = rw add-one (sym (items_text_from-next 0 n values n value (omega arith) lt is))

-- the text after a pair more
pub pairs_text-next : (pairs : List Pair) (n : ℕ) (p : Pair) → n < length pairs → p ≡ get_or pairs n p
    → pairs_text (pairs_view (take n pairs)) ++ (comma_before n ++ pair_text p) ≡ pairs_text (pairs_view (take (n + 1) pairs))
pairs_text-next pairs n p lt is = rw add-one (sym (pairs_text_from-next 0 n pairs n p (omega arith) lt is))
