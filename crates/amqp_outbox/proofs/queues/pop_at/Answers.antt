use Rattle.std.proofs.Common.{refl}
use Rattle.amqp_outbox.proofs.PiecesMoves.{gives}
use Rattle.amqp_outbox.proofs.queues.pop_at.Goals as goal

pub returns : goal.returns
returns c =
    gives c.args.queues.now.items c.args.at c.index_mut-queue.result.now _ c.pop_front.result c.requires c.index_mut-queue.ensures.value refl
    c.pop_front.ensures.items c.pop_front.ensures.len c.pop_front.ensures.variant.1 c.pop_front.ensures.capacity
