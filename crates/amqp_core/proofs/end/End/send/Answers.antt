-- What holds of the end holds of its endpoint, and what holds of the message that is lent holds of the message.
use Rattle.std.proofs.Common.{refl, ap, ◌∙◌, subst}
use Rattle.amqp_model.specs.End.Asks.{Send}
use Rattle.amqp_model.specs.End.Events.{Message}
use Rattle.amqp_core.specs.Asks.Effects.{AcceptsAsk}
use Rattle.amqp_core.specs.End.View.{config_at, endpoint_of, role_played}
use Rattle.amqp_core.specs.End.EndpointView.{endpoint_view}
use Rattle.amqp_core.specs.Config.Settings.{role_for}
use Rattle.amqp_core.specs.declared.settings.Settings.{Settings}
use Rattle.amqp_core.specs.Faults.Blamed.{Tally}
use Rattle.amqp_core.proofs.KeptLemmas.{kept_sound, sound_kept}
use Rattle.amqp_core.proofs.end.End.send.Goals as goal

pub ask-requires : goal.ask-requires
ask-requires g c = kept_sound c.args.self.now.inner c.args.self.now.kept

pub invariant_of-self : goal.invariant_of-self
invariant_of-self g c = record {
  kept = sound_kept c.ask.new.self c.ask.ensures.sound;
  plays = ap (λ (s : Settings). role_for s) c.ask.ensures.settings ∙ c.args.self.now.plays;
  gathers = ap (λ (s : Settings). s.lends) c.ask.ensures.settings ∙ c.args.self.now.gathers;
}

pub returns : goal.returns
returns g c =
    let old = c.args.self.now in
    record {
      accepted =
          subst (λ (m : Message). AcceptsAsk (role_played old) (config_at old) (Send c.args.channel m) (endpoint_of old) (endpoint_view c.ask.new.self)) c.of.ensures
          c.in_ok-ask.ensures.accepted;
      refused = tt;
      settings = c.in_ok-ask.ensures.settings;
      counters = ap (λ (t : Tally). record { frames = c.args.self.now.frames_taken; octets = c.args.self.now.octets_written; tally = t }) c.ask.ensures.tally;
      heard = refl;
    }
