use Rattle.std.proofs.Common.{◌≡◌, ◌≤◌, ◌+◌, ◌*◌, ◌++◌, length, map}
use Rattle.amqp_value.specs.Lent.{octets_inside}
use Rattle.amqp_value.specs.View.{view, named_view}
use Rattle.amqp_value.specs.Whole.{AreItems, ArePairs, items_encoded, pairs_encoded}
use Rattle.amqp_value.proofs.own.+own.Given as goal

abbrev pub decreases-own_value : goal.decreases-own_value
decreases-own_value l = 4 * octets_inside l.value + 3

abbrev pub decreases-own_items : goal.decreases-own_items
decreases-own_items l = 4 * length l.body.now + 2

abbrev pub decreases-own_pairs : goal.decreases-own_pairs
decreases-own_pairs l = 4 * length l.body.now + 2

abbrev pub decreases-fill_pairs : goal.decreases-fill_pairs
decreases-fill_pairs l = 4 * length l.body.now + 1

abbrev pub decreases-own_pair : goal.decreases-own_pair
decreases-own_pair l = 4 * length l.octets.now

abbrev pub invariant-own_items-loop-rest : goal.invariant-own_items-loop-rest
invariant-own_items-loop-rest l =
    (length l.rest ≤ length l.body) × AreItems l.rest × (map view l.values.items ++ items_encoded l.rest ≡ items_encoded l.body)

abbrev pub decreases-own_items-loop-rest : goal.decreases-own_items-loop-rest
decreases-own_items-loop-rest l = length l.rest

abbrev pub invariant-fill_pairs-loop-rest : goal.invariant-fill_pairs-loop-rest
invariant-fill_pairs-loop-rest l =
    (length l.rest ≤ length l.body) × ArePairs l.rest × (map named_view l.pairs.items ++ pairs_encoded l.rest ≡ pairs_encoded l.body)

abbrev pub decreases-fill_pairs-loop-rest : goal.decreases-fill_pairs-loop-rest
decreases-fill_pairs-loop-rest l = length l.rest
