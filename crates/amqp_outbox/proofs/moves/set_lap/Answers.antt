use Rattle.std.proofs.Common.{ap}
use Rattle.amqp_outbox.specs.declared.slots.Waiting.{Waiting}
use Rattle.amqp_outbox.proofs.OutboxWaiting.{slots-set, laps-set}
use Rattle.amqp_outbox.proofs.moves.set_lap.Goals as goal

pub returns-clause-slots : goal.returns-clause-slots
returns-clause-slots c =
    slots-set c.args.slots.now.items c.args.at (record { slot = c.index-waiting.result.now.slot; lap = c.args.lap }) c.index-waiting.result.now c.requires (ap (λ (w : Waiting). w.slot) c.index-waiting.ensures)

pub returns-clause-laps : goal.returns-clause-laps
returns-clause-laps c = laps-set c.args.slots.now.items c.args.at (record { slot = c.index-waiting.result.now.slot; lap = c.args.lap })
