use Rattle.std.proofs.Common.{◌-◌, ◌≤◌, length, take}
use Rattle.amqp_outbox.specs.OutboxSlots.{EndsWithChannel, slots_in}
use Rattle.amqp_outbox.proofs.slots.place_on.Given as goal

abbrev pub invariant-loop-own : goal.invariant-loop-own
invariant-loop-own l = (l.own ≤ length l.row) × EndsWithChannel l.slot.channel (take l.own (slots_in l.row))

abbrev pub decreases-loop-own : goal.decreases-loop-own
decreases-loop-own l = length l.row - l.own
