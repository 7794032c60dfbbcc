use Rattle.std.proofs.Common.{refl, ◌-◌, ◌≡◌, drop, arith}
use Rattle.amqp_outbox.specs.OutboxFields.{all_octets}
use Rattle.amqp_outbox.specs.declared.outbox.Outbox.TheInside.{Inside}
use Rattle.amqp_outbox.proofs.OutboxAside.{dropped-in-front, fits-dropped}
use Rattle.amqp_outbox.proofs.OutboxLapMoves.{same_laps}
use Rattle.amqp_outbox.proofs.OutboxMoves.{written-dropped, same_view}
use Rattle.amqp_outbox.proofs.OutboxStates.{sound, kept}
use Rattle.amqp_outbox.proofs.outbox.Outbox.forget_written.Goals as goal

pub invariant_of-self : goal.invariant_of-self
invariant_of-self c =
    let x = c.self.inside in
    let s = c.self.invariant in
    let a = s.written in
    let b = s.begun in
    let row = s.aside.row in
    let y : Inside = record x { octets = c.forget.new.items; written = 0; begun = x.begun - x.written; arranged = x.arranged - x.written } in
    let octets : all_octets y ≡ drop x.written (all_octets x) = dropped-in-front x.octets.items x.aside.items _ x.written (omega arith) c.forget.ensures.items in
    sound y _ _ _ _ _ _ _ _ (written-dropped x y s octets refl refl refl refl refl refl) (kept x s) (same_laps x y s refl refl refl refl)
    (fits-dropped x y s.aside (omega arith) c.forget.ensures.items c.forget.ensures.room refl refl)

pub returns : goal.returns
returns c =
    let x = c.self.inside in
    let s = c.self.invariant in
    let a = s.written in
    let b = s.begun in
    let row = s.aside.row in
    let y : Inside = record x { octets = c.forget.new.items; written = 0; begun = x.begun - x.written; arranged = x.arranged - x.written } in
    let octets : all_octets y ≡ drop x.written (all_octets x) = dropped-in-front x.octets.items x.aside.items _ x.written (omega arith) c.forget.ensures.items in
    same_view x y _ _ _ c.self.view_is refl refl (written-dropped x y s octets refl refl refl refl refl refl)
