use Rattle.std.proofs.Common.{◌≡◌, take, map}
use Rattle.amqp_value.specs.View.{view, named_view}
use Rattle.amqp_value.proofs.values.+copy.Given as goal

abbrev pub invariant-copy_items-loop-value : goal.invariant-copy_items-loop-value
invariant-copy_items-loop-value l = map view l.copies.items ≡ map view (take l.value-index l.value-items)

abbrev pub invariant-copy_pairs-loop-pair : goal.invariant-copy_pairs-loop-pair
invariant-copy_pairs-loop-pair l = map named_view l.copies.items ≡ map named_view (take l.pair-index l.pair-items)
