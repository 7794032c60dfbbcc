use Rattle.std.proofs.Common.{rules}
use Rattle.amqp_model.specs.Output.Arrangement.{IsChannel}
use Rattle.amqp_outbox.specs.OutboxFields.{row_of}
use Rattle.amqp_outbox.proofs.OutboxMoves.{output-is}
use Rattle.amqp_outbox.proofs.outbox.Outbox.output.Goals as goal

pub returns-clause-octets : goal.returns-clause-octets
returns-clause-octets c = rw (c.deref.ensures.value, ← c.self.view_is) (output-is c.self.inside c.self.invariant)

pub returns-clause-rules : goal.returns-clause-rules
returns-clause-rules c =
    let last : IsChannel c.self.inside.last = search rules in
    rw (← c.self.view_is) ((c.rows_follow_rules.ensures c.self.inside.last (row_of c.self.inside) last c.self.invariant.row_channels).0 c.self.invariant.in_turn)
