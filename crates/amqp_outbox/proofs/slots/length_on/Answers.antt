use Rattle.std.proofs.Common.{◌∙◌, arith}
use Rattle.amqp_outbox.proofs.OutboxWaiting.{length_on-next, length_on-past, length_on-most}
use Rattle.amqp_outbox.proofs.slots.length_on.Goals as goal
use Rattle.amqp_outbox.proofs.slots.length_on.Goals.{then-waiting-channel, else-waiting-channel}

pub overflow_add-total : goal.overflow_add-total
overflow_add-total c =
    let h = length_on-most c.args.channel _ _ _ _ _ c.loop-waiting-test.true c.loop-waiting.invariant c.length-total.ensures in
    omega arith

pub loop-waiting-preserved : goal.loop-waiting-preserved
loop-waiting-preserved c =
    elim c.if-waiting-channel.branch [
      | then-waiting-channel w ↦ w.total-is ∙ length_on-next c.args.channel _ _ _ _ _ c.loop-waiting-test.true c.loop-waiting.invariant w.if-waiting-channel.true w.length-total.ensures
      | else-waiting-channel w ↦ w.total-is ∙ length_on-past c.args.channel _ _ _ _ c.loop-waiting-test.true c.loop-waiting.invariant w.if-waiting-channel.false
    ]
