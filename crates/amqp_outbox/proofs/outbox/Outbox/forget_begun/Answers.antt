use Rattle.std.proofs.Common.{refl, ◌-◌}
use Rattle.amqp_outbox.specs.declared.outbox.Outbox.TheInside.{Inside}
use Rattle.amqp_outbox.proofs.OutboxLapMoves.{laps-dropped}
use Rattle.amqp_outbox.proofs.OutboxMoves.{begun-dropped, same_view}
use Rattle.amqp_outbox.proofs.OutboxStates.{sound, kept}
use Rattle.amqp_outbox.proofs.OutboxWaiting.{slots-dropped, laps-dropped_in}
use Rattle.amqp_outbox.proofs.outbox.Outbox.forget_begun.Goals as goal

pub invariant_of-self : goal.invariant_of-self
invariant_of-self c = sound _ _ _ _ _ _ _ _ _ (begun-dropped c.self.inside _ c.self.invariant refl (slots-dropped c.self.inside.slots_begun c.self.inside.slots.items c.forget.new.items.items c.forget.ensures.items) refl refl refl refl refl) (kept c.self.inside c.self.invariant) (laps-dropped c.self.inside _ c.self.invariant (laps-dropped_in c.self.inside.slots_begun c.self.inside.slots.items c.forget.new.items.items c.forget.ensures.items) refl refl refl) (record { row = c.self.invariant.aside.row; room = c.self.invariant.aside.room })

pub returns : goal.returns
returns c =
    let x = c.self.inside in
    let y : Inside = record x { slots = c.forget.new.items; slots_begun = 0; slots_arranged = x.slots_arranged - x.slots_begun } in
    same_view x y _ _ _ c.self.view_is refl refl (begun-dropped x y c.self.invariant refl (slots-dropped c.self.inside.slots_begun c.self.inside.slots.items c.forget.new.items.items c.forget.ensures.items) refl refl refl refl refl)
