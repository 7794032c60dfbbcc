use Rattle.std.proofs.Common.{ap, arith}
use Rattle.amqp_outbox.specs.declared.queues.Queue.{Queue}
use Rattle.amqp_outbox.proofs.PiecesSearch.{count-up, count-down}
use Rattle.amqp_outbox.proofs.queues.count_up_to.Goals as goal

pub loop-low-preserved-then-queues-middle : goal.loop-low-preserved-then-queues-middle
loop-low-preserved-then-queues-middle c =
    let e = ap (λ (q : Queue). q.channel) c.index-queues-middle.is in
    count-up _ _ _ _ _ c.index-queues-middle.result c.requires c.loop-low.invariant (omega arith) (omega arith) (omega arith)

pub loop-low-preserved : goal.loop-low-preserved
loop-low-preserved c =
    let e = ap (λ (q : Queue). q.channel) c.index-queues-middle.is in
    count-down _ _ _ _ _ c.index-queues-middle.result c.requires c.loop-low.invariant (omega arith) (omega arith) (omega arith)
