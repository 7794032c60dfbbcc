use Rattle.std.proofs.Common.{arith}
use Rattle.amqp_outbox.proofs.PiecesWaiting.{waits-most}
use Rattle.amqp_outbox.proofs.send_queue.SendQueue.waiting.Goals as goal

pub overflow_add-result : goal.overflow_add-result
overflow_add-result c =
    let x = c.self.inside in
    let m = waits-most x c.args.channel c.waiting-waiting.result c.self.invariant (c.waiting-waiting.ensures x.last) in
    let f = c.self.invariant.fits in
    let l = c.len.ensures in
    omega arith
