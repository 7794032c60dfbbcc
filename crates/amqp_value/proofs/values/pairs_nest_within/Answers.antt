use Rattle.std.proofs.Common.{◌≤◌, ◌<◌, get_or, arith}
use Rattle.amqp_value.specs.Values.{depth}
use Rattle.amqp_value.specs.View.{view}
use Rattle.amqp_value.proofs.Depths.{pair_depth, pairs_depth-next, fails_as, above_from}
use Rattle.amqp_value.proofs.values.pairs_nest_within.Goals as goal

pub returns-then-not-nests_within : goal.returns-then-not-nests_within
returns-then-not-nests_within c =
    let deep : c.args.levels < depth (view c.pair-item.result.1) = above_from c.nests_within.result _ _ c.nests_within.ensures c.if-not-nests_within.true in
    let here : c.args.levels < depth (view (get_or c.args.pairs.now c.loop-pair.pair-index c.pair-item.result).1) = rw (← c.pair-item.is) deep in
    fails_as (λ within. absurd (omega (arith, pair_depth c.args.pairs.now c.loop-pair.pair-index c.pair-item.result c.loop-pair-test.true)))

pub loop-pair-preserved : goal.loop-pair-preserved
loop-pair-preserved c =
    let fits : depth (view c.pair-item.result.1) ≤ c.args.levels = c.nests_within.ensures.0 c.if-not-nests_within.false in
    pairs_depth-next c.args.pairs.now c.loop-pair.pair-index c.pair-item.result c.args.levels c.loop-pair-test.true c.loop-pair.invariant (rw (← c.pair-item.is) fits)
