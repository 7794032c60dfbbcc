use Rattle.std.proofs.Common.{arith}
use Rattle.amqp_outbox.proofs.WovenSteps.{coming-next, coming-most}
use Rattle.amqp_outbox.proofs.weaving.length_of.Goals as goal

pub overflow_add-total : goal.overflow_add-total
overflow_add-total c =
    let h = coming-most _ _ _ _ _ c.loop-next-test.true c.loop-next.invariant c.length-total.ensures in
    omega arith

pub loop-next-preserved : goal.loop-next-preserved
loop-next-preserved c = coming-next _ _ _ _ _ c.loop-next-test.true c.loop-next.invariant c.length-total.ensures
