use Rattle.amqp_outbox.proofs.OutboxLapMoves.{laps-lent}
use Rattle.amqp_outbox.proofs.OutboxMoves.{row-lent}
use Rattle.amqp_outbox.proofs.outbox.Outbox.goes_between.Goals as goal

pub place_of-requires-clause-laps_are : goal.place_of-requires-clause-laps_are
place_of-requires-clause-laps_are c =
    let x = c.self.inside in
    laps-lent x _ _ c.self.invariant c.deref.ensures.value (row-lent x _ c.self.invariant c.deref.ensures.value)
