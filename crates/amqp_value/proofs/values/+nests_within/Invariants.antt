use Rattle.std.proofs.Common.{◌≤◌, take}
use Rattle.amqp_value.specs.Values.{items_depth, pairs_depth}
use Rattle.amqp_value.specs.View.{items_view, pairs_view}
use Rattle.amqp_value.proofs.values.+nests_within.Given as goal

abbrev pub decreases-nests_within : goal.decreases-nests_within
decreases-nests_within l = l.levels

abbrev pub invariant-loop-item : goal.invariant-loop-item
invariant-loop-item l = items_depth (items_view (take l.item-index l.item-items)) ≤ l.inner

abbrev pub invariant-loop-pair : goal.invariant-loop-pair
invariant-loop-pair l = pairs_depth (pairs_view (take l.pair-index l.pair-items)) ≤ l.inner
