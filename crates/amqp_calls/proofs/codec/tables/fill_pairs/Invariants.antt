use Rattle.std.proofs.Common.{◌≡◌, ◌+◌, ◌≤◌, ◌++◌, length, map, take, drop}
use Rattle.amqp_value.specs.Lent.{pairs_left}
use Rattle.amqp_calls.specs.Tables.{pair_there, named_there}
use Rattle.amqp_calls.proofs.codec.tables.fill_pairs.Given as goal

abbrev pub invariant-loop-count : goal.invariant-loop-count
invariant-loop-count l =
    (goal.iterator-loop-count).can_next l.left
    × (goal.iterator-loop-count).is_finite l.left
    × (l.count ≤ length l.pairs)
    × (length l.pairs ≡ length l.initial.pairs)
    × (l.count + length (pairs_left l.left) ≡ length (pairs_left l.named))
    × (map pair_there (take l.count l.pairs) ++ named_there (pairs_left l.left) ≡ named_there (pairs_left l.named))
    × (drop l.count l.pairs ≡ drop l.count l.initial.pairs)
