use Rattle.amqp_outbox.proofs.PiecesLeft.{row-parts}
use Rattle.amqp_outbox.proofs.lending.Pieces.new.Goals as goal

pub returns : goal.returns
returns c = row-parts c.args.ahead.now c.args.last c.args.queues.now c.deref.result.now c.new.result c.deref.ensures.value c.new.ensures.row
