use Rattle.amqp_outbox.specs.PiecesQueues.{AllEmpty}
use Rattle.amqp_outbox.proofs.queues.first_waiting.Given as goal

abbrev pub invariant-loop-at : goal.invariant-loop-at
invariant-loop-at l = AllEmpty l.from l.at l.queues
