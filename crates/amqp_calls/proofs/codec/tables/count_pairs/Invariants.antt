use Rattle.std.proofs.Common.{◌≡◌, ◌+◌, length}
use Rattle.amqp_value.specs.Lent.{pairs_left}
use Rattle.amqp_calls.proofs.codec.tables.count_pairs.Given as goal

abbrev pub invariant-loop : goal.invariant-loop
invariant-loop l =
    (goal.iterator-loop).can_next l.iterator'
    × (goal.iterator-loop).is_finite l.iterator'
    × (l.count + length (pairs_left l.iterator') ≡ length (pairs_left l.named))
