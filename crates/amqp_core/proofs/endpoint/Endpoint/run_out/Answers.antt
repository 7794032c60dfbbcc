-- Of an end that has failed no octets are unfinished.
use Rattle.std.proofs.Common.{refl, sym, ap, subst}
use Rattle.amqp_model.specs.End.Channels.{End}
use Rattle.amqp_model.specs.End.Fitting.{IfAgreedFits}
use Rattle.amqp_core.specs.Connection.View.{connection_end}
use Rattle.amqp_core.specs.End.EndpointView.{endpoint_view, role_at}
use Rattle.amqp_core.proofs.BoundLemmas.{bounded_failed}
use Rattle.amqp_core.specs.Config.Settings.{config_view}
use Rattle.amqp_core.proofs.FeedLemmas.{fields_failed, holds_failed, none_unfinished, sound_with}
use Rattle.amqp_core.proofs.HearLemmas.{same_end}
use Rattle.amqp_core.proofs.endpoint.Endpoint.run_out.Goals as goal

pub returns-clause-left : goal.returns-clause-left
returns-clause-left c = record {
  end = same_end _ _ (sym c.fail.ensures.end);
  unfinished = sym (none_unfinished 0 c.new.result.pending refl c.new.ensures.pending);
  output = refl;
}

pub returns-clause-sound : goal.returns-clause-sound
returns-clause-sound c =
    let old = c.args.self.now in
    let failed = sym (ap (λ (e : End). e.phase) c.fail.ensures.end) in
    sound_with old.connection.settings (record { connection = c.fail.new.self; splitter = c.new.result; heard = 0; outbox = old.outbox; tally = old.tally }) c.fail.ensures.settings c.requires.sound.writes c.requires.sound.staged
    (fields_failed (role_at old) (connection_end c.fail.new.self) 0 c.new.result failed (subst IfAgreedFits (sym (ap (λ (e : End). e.agreed) c.fail.ensures.end)) c.requires.sound.fields.agreed) refl c.new.ensures.pending)
    (holds_failed (role_at old) (endpoint_view (record { connection = c.fail.new.self; splitter = c.new.result; heard = 0; outbox = old.outbox; tally = old.tally })) failed)
    (bounded_failed (role_at old) (config_view old.connection.settings) (connection_end c.fail.new.self) failed)
