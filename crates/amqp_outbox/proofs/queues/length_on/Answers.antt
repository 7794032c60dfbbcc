use Rattle.std.proofs.Common.{◌∙◌, arith}
use Rattle.amqp_outbox.proofs.PiecesWaiting.{own-next, other-next, own-most, queue-most}
use Rattle.amqp_outbox.proofs.queues.length_on.Goals as goal
use Rattle.amqp_outbox.proofs.queues.length_on.Goals.{then-queue-channel, else-queue-channel}

pub length_of-total-requires-clause-fits : goal.length_of-total-requires-clause-fits
length_of-total-requires-clause-fits c =
    let h = queue-most _ _ c.queue-item.result c.loop-queue-test.true c.queue-item.is in
    let f = c.requires.fits in
    omega arith

pub overflow_add-total : goal.overflow_add-total
overflow_add-total c =
    let h = own-most c.args.channel _ _ _ _ c.queue-item.result c.requires.queues c.loop-queue-test.true c.queue-item.is c.if-queue-channel.true c.loop-queue.invariant c.length_of-total.ensures in
    let f = c.requires.fits in
    omega arith

pub loop-queue-preserved : goal.loop-queue-preserved
loop-queue-preserved c =
    elim c.if-queue-channel.branch [
      | then-queue-channel w ↦ w.total-is ∙ own-next c.args.channel _ _ _ _ c.queue-item.result c.requires.queues c.loop-queue-test.true c.queue-item.is w.if-queue-channel.true c.loop-queue.invariant w.length_of-total.ensures
      | else-queue-channel w ↦ w.total-is ∙ other-next c.args.channel _ _ _ c.queue-item.result c.requires.queues c.loop-queue-test.true c.queue-item.is w.if-queue-channel.false c.loop-queue.invariant
    ]
