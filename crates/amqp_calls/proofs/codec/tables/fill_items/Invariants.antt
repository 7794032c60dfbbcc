use Rattle.std.proofs.Common.{◌≡◌, ◌+◌, ◌≤◌, ◌++◌, length, map, take, drop}
use Rattle.amqp_value.specs.Lent.{items_left}
use Rattle.amqp_calls.specs.Values.{datum_there, all_data}
use Rattle.amqp_calls.proofs.codec.tables.fill_items.Given as goal

abbrev pub invariant-loop-count : goal.invariant-loop-count
invariant-loop-count l =
    (goal.iterator-loop-count).can_next l.left
    × (goal.iterator-loop-count).is_finite l.left
    × (l.count ≤ length l.values)
    × (length l.values ≡ length l.initial.values)
    × (l.count + length (items_left l.left) ≡ length (items_left l.items))
    × (map datum_there (take l.count l.values) ++ all_data (items_left l.left) ≡ all_data (items_left l.items))
    × (drop l.count l.values ≡ drop l.count l.initial.values)
