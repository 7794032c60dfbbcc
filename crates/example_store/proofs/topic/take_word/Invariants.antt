use Rattle.std.proofs.Common.{◌≡◌, ◌+◌, ◌≤◌, ◌<◌, ◌∷◌, ℕ, List, false, length, get_or, drop}
use Rattle.example_store.specs.Topic.{lent}
use Rattle.example_store.specs.TopicRows.{IsRow, is_match}
use Rattle.example_store.proofs.topic.take_word.Given as goal

abbrev pub invariant-loop-n : goal.invariant-loop-n
invariant-loop-n l = record {
  within : l.n ≤ length l.key;
  long : length l.row ≡ length l.key + 1;
  kept : (k : ℕ) → k < l.n → get_or l.row k false ≡ get_or l.fn.row k false;
  after_is : l.after ≡ get_or l.fn.row l.n false;
  done : (ps : List (List ℕ)) → IsRow ps (lent l.key) l.fn.row → (k : ℕ) → l.n ≤ k → k ≤ length l.key → get_or l.row k false ≡ is_match (l.word ∷ ps) (drop k (lent l.key));
}

abbrev pub decreases-loop-n : goal.decreases-loop-n
decreases-loop-n l = l.n
