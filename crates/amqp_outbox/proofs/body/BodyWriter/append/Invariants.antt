use Rattle.std.proofs.Common.{length}
use Rattle.amqp_outbox.proofs.BodyToCome.{Going}
use Rattle.amqp_outbox.proofs.body.BodyWriter.append.Given as goal

abbrev pub invariant-loop-rest : goal.invariant-loop-rest
invariant-loop-rest l = Going l.fn.self l.fn.octets.items l.fn.part l.self l.octets.items l.rest

abbrev pub decreases-loop-rest : goal.decreases-loop-rest
decreases-loop-rest l = length l.rest
