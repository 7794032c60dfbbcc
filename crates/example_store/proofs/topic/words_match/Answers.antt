use Rattle.std.proofs.Common.{arith, ℕ, List, get_or, ◌-◌, ◌+◌, ◌≡◌, ◌≤◌, ◌++◌, ◌∷◌, [], length, drop, replicate, true, false, sym, ◌∙◌, ap, subst}
use Rattle.std.proofs.lemmas.List.{length-map, drop_all}
use denote.Ref.{Bor}
use Rattle.example_store.specs.Topic.{lent}
use Rattle.example_store.specs.TopicRows.{IsRow}
use Rattle.example_store.proofs.TopicLemmas.{start_row, drop_lent, row_back}
use Rattle.example_store.proofs.topic.words_match.Goals as goal

pub loop-taken-init : goal.loop-taken-init
loop-taken-init c =
    let same : length (lent c.args.key.now) ≡ length c.args.key.now = length-map c.args.key.now (λ w. w.now) in
    let all : length (lent c.args.pattern.now) ≤ length c.args.pattern.now = omega (arith, length-map c.args.pattern.now (λ w. w.now)) in
    let none : drop (length c.args.pattern.now) (lent c.args.pattern.now) ≡ [] = drop_all (length c.args.pattern.now) (lent c.args.pattern.now) all in
    let items : c.push.new.self.items ≡ replicate (length (lent c.args.key.now)) false ++ true ∷ []
    = c.in_ok-push.ensures.items ∙ ap (λ xs. xs ++ true ∷ []) (c.in_ok-row.ensures.items_if_clones_equal (λ y e. e) ∙ ap (λ n. replicate n false) (sym same)) in
    record {
      within = omega arith;
      row = rw (items, none) (start_row (lent c.args.key.now));
    }

pub loop-taken-preserved : goal.loop-taken-preserved
loop-taken-preserved c =
    let next : c.loop-taken.taken ≡ (c.loop-taken.taken - 1) + 1 = omega arith in
    let d : Bor (List ℕ) = record { ref_ptr = (0, 0); now = [] } in
    let w : List ℕ = (get_or c.args.pattern.now (c.loop-taken.taken - 1) d).now in
    let split : drop (c.loop-taken.taken - 1) (lent c.args.pattern.now) ≡ w ∷ drop c.loop-taken.taken (lent c.args.pattern.now) = drop_lent c.args.pattern.now (c.loop-taken.taken - 1) c.loop-taken.taken d next (omega arith) in
    let back = row_back c.loop-taken.row.len c.take_word.new.row c.loop-taken.row.items (omega arith) (omega arith) in
    let before : IsRow (drop c.loop-taken.taken (lent c.args.pattern.now)) (lent c.args.key.now) c.deref_mut.result.now = rw c.deref_mut.ensures.value c.loop-taken.invariant.row in
    let after : IsRow (w ∷ drop c.loop-taken.taken (lent c.args.pattern.now)) (lent c.args.key.now) c.take_word.new.row = c.take_word.ensures.row _ before in
    let done : IsRow (drop (c.loop-taken.taken - 1) (lent c.args.pattern.now)) (lent c.args.key.now) c.take_word.new.row = rw split after in
    record {
      within = omega arith;
      row = subst (IsRow (drop (c.loop-taken.taken - 1) (lent c.args.pattern.now)) (lent c.args.key.now)) (sym back) done;
    }
