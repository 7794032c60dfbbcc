use Rattle.std.proofs.Common.{◌+◌, ap, ◌∙◌}
use Rattle.amqp_outbox.specs.OutboxSlots.{moved_up}
use Rattle.amqp_outbox.proofs.OutboxWaiting.{moved-slots, moved-laps}
use Rattle.amqp_outbox.proofs.moves.put_slot.Goals as goal

pub returns-clause-slots : goal.returns-clause-slots
returns-clause-slots c =
    moved-slots c.set_lap.new.slots.items c.move_up.new.items.items c.args.place (c.args.end + 1) 1 c.move_up.ensures
    ∙ ap (moved_up c.args.place (c.args.end + 1) 1) c.set_lap.ensures.slots

pub returns-clause-laps : goal.returns-clause-laps
returns-clause-laps c =
    moved-laps c.set_lap.new.slots.items c.move_up.new.items.items c.args.place (c.args.end + 1) 1 c.move_up.ensures
    ∙ ap (moved_up c.args.place (c.args.end + 1) 1) c.set_lap.ensures.laps
