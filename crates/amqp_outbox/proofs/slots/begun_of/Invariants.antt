use Rattle.std.proofs.Common.{◌≡◌, take}
use Rattle.amqp_outbox.specs.OutboxLaps.{laps_last}
use Rattle.amqp_outbox.specs.OutboxSlots.{slots_in, slots_begun_on}
use Rattle.amqp_outbox.proofs.OutboxSlots.{BegunSoFar}
use Rattle.amqp_outbox.proofs.slots.begun_of.Given as goal

abbrev pub invariant-loop-waiting : goal.invariant-loop-waiting
invariant-loop-waiting l =
    BegunSoFar (slots_in l.row) l.octets l.fn.last l.waiting-index l.begun.frames l.begun.octets l.begun.last
    × ((l.begun.lap ≡ laps_last l.fn.lap l.fn.last (take l.waiting-index (slots_in l.row)))
    × (l.begun.on ≡ slots_begun_on l.fn.begun_on (take l.waiting-index (slots_in l.row))))
