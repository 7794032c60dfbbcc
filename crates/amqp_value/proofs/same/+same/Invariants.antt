use Rattle.std.proofs.Common.{◌≡◌, ◌≤◌, ◌+◌, ◌*◌, length}
use Rattle.amqp_value.specs.Same.{same_items, same_pairs}
use Rattle.amqp_value.specs.Lent.{octets_inside}
use Rattle.amqp_value.specs.Values.{items_of, pairs_of}
use Rattle.amqp_value.specs.Whole.{AreItems, ArePairs, items_encoded, pairs_encoded}
use Rattle.amqp_value.proofs.same.+same.Given as goal

abbrev pub decreases-same_values : goal.decreases-same_values
decreases-same_values l = 2 * octets_inside l.value + 1

abbrev pub decreases-same_items : goal.decreases-same_items
decreases-same_items l = 2 * length l.body.now

abbrev pub decreases-same_pairs : goal.decreases-same_pairs
decreases-same_pairs l = 2 * length l.body.now

abbrev pub invariant-same_items-loop-rest : goal.invariant-same_items-loop-rest
invariant-same_items-loop-rest l =
    (length l.rest ≤ length l.body)
    × AreItems l.rest
    × AreItems l.beside
    × (same_items (items_of (items_encoded l.rest)) (items_of (items_encoded l.beside)) ≡ same_items (items_of (items_encoded l.body)) (items_of (items_encoded l.other)))

abbrev pub decreases-same_items-loop-rest : goal.decreases-same_items-loop-rest
decreases-same_items-loop-rest l = length l.rest

abbrev pub invariant-same_pairs-loop-rest : goal.invariant-same_pairs-loop-rest
invariant-same_pairs-loop-rest l =
    (length l.rest ≤ length l.body)
    × ArePairs l.rest
    × ArePairs l.beside
    × (same_pairs (pairs_of (pairs_encoded l.rest)) (pairs_of (pairs_encoded l.beside)) ≡ same_pairs (pairs_of (pairs_encoded l.body)) (pairs_of (pairs_encoded l.other)))

abbrev pub decreases-same_pairs-loop-rest : goal.decreases-same_pairs-loop-rest
decreases-same_pairs-loop-rest l = length l.rest
