use Rattle.std.proofs.Common.{◌≤◌, take}
use Rattle.amqp_value.specs.Values.{pairs_depth}
use Rattle.amqp_value.specs.View.{pairs_view}
use Rattle.amqp_value.proofs.values.pairs_nest_within.Given as goal

abbrev pub invariant-loop-pair : goal.invariant-loop-pair
invariant-loop-pair l = pairs_depth (pairs_view (take l.pair-index l.pairs)) ≤ l.levels
