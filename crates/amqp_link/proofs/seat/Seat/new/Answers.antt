-- A new side is set up with an equal configuration.
use Rattle.std.proofs.Common.{refl, ap, ◌∙◌, sym}
use Rattle.amqp_model.specs.Stream.Endpoint.{new_endpoint}
use Rattle.amqp_core.specs.Config.Configs.{set_up_as}
use Rattle.amqp_core.specs.Config.Settings.{role_for}
use Rattle.amqp_core.specs.declared.settings.Settings.{Settings}
use Rattle.amqp_link.specs.SeatView.{seat_view}
use Rattle.amqp_link.proofs.SeatLemmas.{new-side}
use Rattle.amqp_link.proofs.seat.Seat.new.Goals as goal

pub returns-clause-new : goal.returns-clause-new
returns-clause-new g c =
    let new = c.in_ok-end.ensures in
    new-side _ (seat_view record { end = c.in_ok-end.end; dropped = _ }) (ap set_up_as (new.settings ∙ c.in-Ok.ensures.new.settings_are) ∙ c.in_ok-config.ensures)
    (new.endpoint ∙ (c.in-Ok.ensures.new.endpoint ∙ ap (λ (s : Settings). new_endpoint (role_for s)) (sym new.settings))) new.trace new.fed new.written refl
