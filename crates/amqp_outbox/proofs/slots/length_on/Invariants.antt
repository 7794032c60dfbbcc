use Rattle.std.proofs.Common.{◌≡◌, take}
use Rattle.amqp_outbox.specs.OutboxSlots.{slots_in, slots_length_on}
use Rattle.amqp_outbox.proofs.slots.length_on.Given as goal

abbrev pub invariant-loop-waiting : goal.invariant-loop-waiting
invariant-loop-waiting l = l.total ≡ slots_length_on l.channel (take l.waiting-index (slots_in l.row))
