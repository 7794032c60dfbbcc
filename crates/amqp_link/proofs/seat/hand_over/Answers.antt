-- What is handed over, and that the two sides stay joined.
use Rattle.std.proofs.Common.{true, refl, ap, subst}
use Rattle.std.proofs.Math.Logic.{∥∥₁_elim, ∥∥₁_prop}
use Rattle.amqp_core.specs.Config.Configs.{set_up_as}
use Rattle.amqp_core.specs.Config.Settings.{config_view, role_for}
use Rattle.amqp_core.specs.Traced.View.{traced_of}
use Rattle.amqp_core.specs.Traced.Tracing.{IsTraceOf}
use Rattle.amqp_core.specs.declared.settings.Settings.{Settings}
use Rattle.amqp_link.specs.SeatView.{seat_view}
use Rattle.amqp_link.proofs.Handing.{all-octets, hands, out-joined, runs-out}
use Rattle.amqp_link.proofs.Joining.{handed}
use Rattle.amqp_link.proofs.seat.hand_over.Goals as goal

pub returns-in_default-clause-hands : goal.returns-in_default-clause-hands
returns-in_default-clause-hands g c =
    let e = c.in_default.ensures in
    let writer = seat_view c.args.writer.now in
    let reader = seat_view c.args.reader.now in
    let after = seat_view record { end = c.feed.new.self; dropped = true } in
    runs-out g.R.Role.role c.args.octets c.in_default.field-0 c.output.result.now writer reader after c.sides_stay_joined.ensures c.output.ensures.octets c.are_octets.ensures c.requires.some c.requires.within c.requires.joined c.requires.there refl
    (record { set_up_same = ap set_up_as e.settings; fed = e.fed; octets_are = e.octets; history = e.history })

pub returns-in_default-clause-joined : goal.returns-in_default-clause-joined
returns-in_default-clause-joined g c =
    let e = c.in_default.ensures in
    let writer = seat_view c.args.writer.now in
    let reader = seat_view c.args.reader.now in
    let after = seat_view record { end = c.feed.new.self; dropped = true } in
    out-joined g.R.Role.role c.args.octets writer reader after c.requires.joined
    (runs-out g.R.Role.role c.args.octets c.in_default.field-0 c.output.result.now writer reader after c.sides_stay_joined.ensures c.output.ensures.octets c.are_octets.ensures c.requires.some c.requires.within c.requires.joined c.requires.there refl
    (record { set_up_same = ap set_up_as e.settings; fed = e.fed; octets_are = e.octets; history = e.history }))

pub returns-clause-hands : goal.returns-clause-hands
returns-clause-hands g c =
    let e = c.in-Ok.ensures in
    let w = c.wrote.ensures in
    let writer = seat_view c.args.writer.now in
    let reader = seat_view c.args.reader.now in
    let writer_after = seat_view record { end = c.wrote.new.self; dropped = c.args.writer.now.dropped } in
    let reader_after = seat_view record { end = c.feed.new.self; dropped = c.args.reader.now.dropped } in
    hands c.args.octets c.in-Ok.taken c.output.result.now writer reader writer_after reader_after c.output.ensures.octets c.requires.some c.requires.within c.requires.there c.requires.there
    (record { set_up_same = ap set_up_as e.settings; fed = e.fed; octets_are = e.octets; history = e.history }) e.within e.progress
    (record { set_up_same = ap set_up_as w.settings; endpoint = w.endpoint; written = w.written; fed = w.fed; history = λ h t. subst (λ (s : Settings). IsTraceOf (role_for s) (config_view s) (traced_of c.wrote.new.self) h) w.settings (w.history h t); dropped = refl })

pub returns-clause-joined : goal.returns-clause-joined
returns-clause-joined g c =
    let e = c.in-Ok.ensures in
    let w = c.wrote.ensures in
    let writer = seat_view c.args.writer.now in
    let reader = seat_view c.args.reader.now in
    let writer_after = seat_view record { end = c.wrote.new.self; dropped = c.args.writer.now.dropped } in
    let reader_after = seat_view record { end = c.feed.new.self; dropped = c.args.reader.now.dropped } in
    ∥∥₁_elim c.requires.joined ∥∥₁_prop (λ j. handed g.R.Role.role c.args.octets c.in-Ok.taken.octets writer reader writer_after reader_after c.sides_stay_joined.ensures (all-octets c.args.octets c.output.result.now writer c.output.ensures.octets c.are_octets.ensures)
    c.requires.some c.requires.within j (hands c.args.octets c.in-Ok.taken c.output.result.now writer reader writer_after reader_after c.output.ensures.octets c.requires.some c.requires.within c.requires.there c.requires.there
    (record { set_up_same = ap set_up_as e.settings; fed = e.fed; octets_are = e.octets; history = e.history }) e.within e.progress
    (record { set_up_same = ap set_up_as w.settings; endpoint = w.endpoint; written = w.written; fed = w.fed; history = λ h t. subst (λ (s : Settings). IsTraceOf (role_for s) (config_view s) (traced_of c.wrote.new.self) h) w.settings (w.history h t); dropped = refl })))
