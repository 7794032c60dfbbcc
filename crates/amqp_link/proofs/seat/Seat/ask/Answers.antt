-- A refused ask changes nothing.
use Rattle.std.proofs.Common.{Err, refl, ap, subst, sym}
use Rattle.amqp_core.specs.Asks.View.{ask_view}
use Rattle.amqp_core.specs.Config.Configs.{set_up_as}
use Rattle.amqp_link.specs.SeatSteps.{SideAccepts, SideAsked, refusal_at}
use Rattle.amqp_link.specs.SeatView.{seat_view}
use Rattle.amqp_link.proofs.SeatLemmas.{refused-side}
use Rattle.amqp_link.proofs.seat.Seat.ask.Goals as goal

pub returns-in-Err : goal.returns-in-Err
returns-in-Err g c =
    let e = c.in-Err.ensures.asked in
    let ask = ask_view c.args.ask.now in
    let old = seat_view c.args.self.now in
    let new = seat_view record { end = c.ask.new.self; dropped = c.args.self.now.dropped } in
    subst (λ f. SideAsked ask old (Err f) new) (sym c.from.ensures)
    (refused-side (refusal_at old ask) (SideAccepts ask old new) c.in-Err.fault old new c.if-self.false e.refused.refused e.refused.same e.same (ap set_up_as e.settings) refl)
