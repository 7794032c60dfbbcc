use Rattle.std.proofs.Common.{◌≡◌}
use Rattle.amqp_value.specs.Lent.{table_ref_view, pairs_left}
use Rattle.amqp_value.specs.Pairs.{value_named}
use Rattle.amqp_value.specs.Values.{pairs_of}
use Rattle.amqp_value.proofs.table_ref.TableRef.get.Given as goal

abbrev pub invariant-loop-first : goal.invariant-loop-first
invariant-loop-first l =
    (goal.iterator-loop-first).can_next l.first-iterator
    × (goal.iterator-loop-first).is_finite l.first-iterator
    × (value_named l.name (pairs_of (pairs_left l.first-iterator)) ≡ value_named l.name (table_ref_view l.self))
