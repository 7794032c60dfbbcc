use Rattle.std.proofs.Common.{arith}
use Rattle.amqp_outbox.proofs.OutboxWaiting.{length-next, length-most}
use Rattle.amqp_outbox.proofs.slots.length_of.Goals as goal

pub overflow_add-total : goal.overflow_add-total
overflow_add-total c =
    let h = length-most _ _ _ _ _ c.loop-waiting-test.true c.loop-waiting.invariant c.length-total.ensures in
    omega arith

pub loop-waiting-preserved : goal.loop-waiting-preserved
loop-waiting-preserved c = length-next _ _ _ _ _ c.loop-waiting-test.true c.loop-waiting.invariant c.length-total.ensures
