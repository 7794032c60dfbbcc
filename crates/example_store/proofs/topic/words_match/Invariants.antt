use Rattle.std.proofs.Common.{◌≤◌, length, drop}
use Rattle.example_store.specs.Topic.{lent}
use Rattle.example_store.specs.TopicRows.{IsRow}
use Rattle.example_store.proofs.topic.words_match.Given as goal

abbrev pub invariant-loop-taken : goal.invariant-loop-taken
invariant-loop-taken l = record {
  within : l.taken ≤ length l.pattern;
  row : IsRow (drop l.taken (lent l.pattern)) (lent l.key) l.row.items;
}

abbrev pub decreases-loop-taken : goal.decreases-loop-taken
decreases-loop-taken l = l.taken
