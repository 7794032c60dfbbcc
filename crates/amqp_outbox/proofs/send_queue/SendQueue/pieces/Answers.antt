use Rattle.std.proofs.Common.{rules}
use Rattle.amqp_model.specs.Output.Arrangement.{IsChannel}
use Rattle.amqp_outbox.proofs.PiecesInTurn.{row-rules}
use Rattle.amqp_outbox.proofs.send_queue.SendQueue.pieces.Goals as goal

pub returns-clause-rules : goal.returns-clause-rules
returns-clause-rules c =
    let last : IsChannel c.self.inside.last = search rules in
    rw (← c.self.view_is) (row-rules c.one_row.ensures.made c.rows_follow_rules.ensures c.self.inside.last c.self.inside.queues last c.self.invariant.queues)
