use Rattle.std.proofs.Common.{◌≡◌, take}
use Rattle.amqp_outbox.specs.OutboxSlots.{slots_length}
use Rattle.amqp_outbox.specs.OutboxWeaving.{slots_of}
use Rattle.amqp_outbox.proofs.weaving.length_of.Given as goal

abbrev pub invariant-loop-next : goal.invariant-loop-next
invariant-loop-next l = l.total ≡ slots_length (take l.next-index (slots_of l.coming))
