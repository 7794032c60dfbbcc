use Rattle.std.proofs.Common.{refl, ◌≡◌, take}
use Rattle.amqp_outbox.specs.OutboxFields.{all_octets}
use Rattle.amqp_outbox.specs.declared.outbox.Outbox.TheInside.{Inside}
use Rattle.amqp_outbox.proofs.OutboxAside.{cut-in-front}
use Rattle.amqp_outbox.proofs.OutboxLapMoves.{laps-kept}
use Rattle.amqp_outbox.proofs.OutboxMoves.{staged-dropped, kept-row, row_view}
use Rattle.amqp_outbox.proofs.OutboxStates.{sound, fits-alone}
use Rattle.amqp_outbox.proofs.OutboxWaiting.{slots-taken, laps-taken}
use Rattle.amqp_outbox.proofs.outbox.Outbox.discard.Goals as goal

pub invariant_of-self : goal.invariant_of-self
invariant_of-self c =
    let x = c.self.inside in
    let s = c.self.invariant in
    let y : Inside = record x { octets = c.truncate.new.self; aside = c.clear.new.self; slots = c.truncate-2.new.self; announced = 0 } in
    let octets : all_octets y ≡ take x.arranged (all_octets x) = cut-in-front x.octets.items x.aside.items _ _ x.arranged s.aside.row c.truncate.ensures.items c.clear.ensures.items in
    let laid = staged-dropped x y s octets (slots-taken _ _ _ c.truncate-2.ensures.items) refl refl refl refl refl in
    sound y _ _ _ _ _ _ _ _ laid (kept-row x s) (laps-kept x y s (laps-taken _ _ _ c.truncate-2.ensures.items) refl refl refl) (fits-alone y _ _ _ _ _ laid c.clear.ensures.items)

pub returns : goal.returns
returns c =
    let x = c.self.inside in
    let s = c.self.invariant in
    let y : Inside = record x { octets = c.truncate.new.self; aside = c.clear.new.self; slots = c.truncate-2.new.self; announced = 0 } in
    let octets : all_octets y ≡ take x.arranged (all_octets x) = cut-in-front x.octets.items x.aside.items _ _ x.arranged s.aside.row c.truncate.ensures.items c.clear.ensures.items in
    row_view x y _ _ _ c.self.view_is refl refl (staged-dropped x y s octets (slots-taken _ _ _ c.truncate-2.ensures.items) refl refl refl refl refl)
