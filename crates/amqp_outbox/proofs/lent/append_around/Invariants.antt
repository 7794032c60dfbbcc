use Rattle.std.proofs.Common.{◌≡◌, ◌++◌, length}
use Rattle.amqp_model.specs.Wire.Contents.{pieces}
use Rattle.amqp_outbox.specs.LentContent.{around}
use Rattle.amqp_outbox.proofs.lent.append_around.Given as goal

abbrev pub invariant-loop-rest : goal.invariant-loop-rest
invariant-loop-rest l =
    l.octets.items ++ around l.fn.channel (pieces l.fn.room l.rest) ≡ l.fn.octets.items ++ around l.fn.channel (pieces l.fn.room l.fn.body)

abbrev pub decreases-loop-rest : goal.decreases-loop-rest
decreases-loop-rest l = length l.rest
