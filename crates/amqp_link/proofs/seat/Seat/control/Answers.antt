-- A refused control changes nothing.
use Rattle.std.proofs.Common.{Err, refl, ap, subst, sym}
use Rattle.amqp_core.specs.Config.Configs.{set_up_as}
use Rattle.amqp_core.specs.Asks.Controlled.{refusal_by}
use Rattle.amqp_link.specs.ControlView.{control_view}
use Rattle.amqp_link.specs.SeatSteps.{SideAcceptsControl, SideControlled, verdict_by}
use Rattle.amqp_link.specs.SeatView.{seat_view}
use Rattle.amqp_link.proofs.SeatLemmas.{refused-side}
use Rattle.amqp_link.proofs.seat.Seat.control.Goals as goal

pub returns-in-Err : goal.returns-in-Err
returns-in-Err g c =
    let e = c.in-Err.ensures in
    let control = control_view c.args.control.now in
    let old = seat_view c.args.self.now in
    let new = seat_view record { end = c.do_control.new.end; dropped = c.args.self.now.dropped } in
    subst (λ f. SideControlled control old (Err f) new) (sym c.from.ensures)
    (refused-side (refusal_by (verdict_by old.set_up old control)) (SideAcceptsControl control old new) c.in-Err.fault old new c.if-self.false e.refused.refused e.refused.same e.same (ap set_up_as e.settings) refl)
