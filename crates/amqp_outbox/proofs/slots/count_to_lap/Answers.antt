use Rattle.std.proofs.Common.{arith}
use Rattle.amqp_outbox.proofs.OutboxWaiting.{ends-before}
use Rattle.amqp_outbox.proofs.slots.count_to_lap.Goals as goal

pub returns-then-row-before-clause-own : goal.returns-then-row-before-clause-own
returns-then-row-before-clause-own c = ends-before _ _ _ _ (omega arith) (omega arith) c.if-row-before.true
