-- Nothing was taken or put yet.
use Rattle.std.proofs.Common.{◌≡◌, sym, ap, ◌∙◌, subst}
use Rattle.amqp_model.specs.End.Bounds.{EndIsWithin}
use Rattle.amqp_model.specs.End.Channels.{End}
use Rattle.amqp_model.specs.Stream.Endpoint as model
use Rattle.amqp_model.specs.Stream.Endpoint.{output_of}
use Rattle.amqp_model.specs.Stream.Octets.{opening_written}
use Rattle.amqp_model.specs.Stream.Pieces.{HoldsUnfinished}
use Rattle.amqp_outbox.specs.OutboxView.{Outgoing}
use Rattle.amqp_channel.specs.Roles.{role_of}
use Rattle.amqp_core.specs.Connection.View.{connection_end}
use Rattle.amqp_core.specs.Config.Settings.{config_view, role_for}
use Rattle.amqp_core.proofs.EndpointNew.{new_is, fields_begin}
use Rattle.amqp_core.proofs.FeedLemmas.{sound_with}
use Rattle.amqp_core.proofs.endpoint.Endpoint.new.Goals as goal

pub returns-clause-view : goal.returns-clause-view
returns-clause-view c =
    let output : c.in_ok-outbox.outbox.output ≡ output_of (opening_written (role_for c.args.settings)) = ap (λ (o : Outgoing). o.output) c.in_ok-outbox.ensures ∙ ap (λ s. output_of (opening_written (role_of s))) c.side.ensures in
    new_is (role_for c.args.settings) (connection_end c.new.result) c.new-2.result.pending c.in_ok-outbox.outbox.output c.new.ensures.end c.new-2.ensures.pending output

pub returns-clause-sound : goal.returns-clause-sound
returns-clause-sound c =
    sound_with c.args.settings (record { connection = c.new.result; splitter = c.new-2.result; heard = 0; outbox = c.in_ok-outbox.outbox; tally = c.new-3.result }) c.new.ensures.settings ∣ c.requires ∣₁ (ap (λ (o : Outgoing). o.staged) c.in_ok-outbox.ensures)
    (fields_begin (role_for c.args.settings) (connection_end c.new.result) c.new-2.result c.new.ensures.end c.new-2.ensures.pending c.new-2.ensures.fault c.new-2.ensures.limit)
    (subst (λ (e : model.Endpoint). HoldsUnfinished (role_for c.args.settings) e) (sym (returns-clause-view c)) (c.unfinished_is_held.ensures.new (role_for c.args.settings)))
    (λ takes. ∣ subst (λ (e : End). EndIsWithin (role_for c.args.settings) (config_view c.args.settings) e) (sym c.new.ensures.end) (c.ends_are_bounded.ensures.new (role_for c.args.settings) (config_view c.args.settings)) ∣₁)
