use Rattle.std.proofs.Common.{arith}
use Rattle.amqp_outbox.proofs.OutboxTurns.{lap-on_zero, lap-on_leaving, place-on_zero}
use Rattle.amqp_outbox.proofs.slots.place_of.Goals as goal

pub returns-then-slot-clause-lap : goal.returns-then-slot-clause-lap
returns-then-slot-clause-lap c = lap-on_leaving _ _ _ _ _ c.if-slot.true

pub returns-then-slot-eq0-clause-place : goal.returns-then-slot-eq0-clause-place
returns-then-slot-eq0-clause-place c = place-on_zero _ _ _ _ _ _ c.if-slot-eq0.true c.if-slot.false (omega arith) c.requires.laps_are c.count_until.ensures.count

pub returns-then-slot-eq0-clause-lap : goal.returns-then-slot-eq0-clause-lap
returns-then-slot-eq0-clause-lap c = lap-on_zero _ _ _ _ _ c.if-slot-eq0.true
