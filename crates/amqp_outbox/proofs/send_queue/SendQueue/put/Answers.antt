use Rattle.std.proofs.Common.{◌∙◌, arith}
use Rattle.amqp_outbox.proofs.OutboxMoves.{put-more}
use Rattle.amqp_outbox.proofs.send_queue.SendQueue.put.Goals as goal

pub loop-preserved : goal.loop-preserved
loop-preserved c =
    let m = put-more c.loop.self c.put_first.new.self (omega arith) c.put_first.ensures in
    (m.0 ∙ c.loop.invariant.0, omega arith)
