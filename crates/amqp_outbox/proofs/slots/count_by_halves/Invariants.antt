use Rattle.std.proofs.Common.{◌≤◌, ◌-◌, length}
use Rattle.amqp_outbox.specs.OutboxLaps.{laps_in, moment}
use Rattle.amqp_outbox.specs.OutboxSlots.{slots_in}
use Rattle.amqp_outbox.proofs.OutboxLaps.{Searched}
use Rattle.amqp_outbox.proofs.slots.count_by_halves.Given as goal

abbrev pub invariant-loop-low : goal.invariant-loop-low
invariant-loop-low l = (l.low ≤ l.high) × (l.high ≤ length l.row) × Searched (moment l.lap l.channel) (slots_in l.row) (laps_in l.row) l.low l.high

abbrev pub decreases-loop-low : goal.decreases-loop-low
decreases-loop-low l = l.high - l.low
