-- What holds of the end holds of its endpoint.
use Rattle.std.proofs.Common.{ap, ◌∙◌}
use Rattle.amqp_core.specs.Config.Settings.{role_for}
use Rattle.amqp_core.specs.declared.settings.Settings.{Settings}
use Rattle.amqp_core.proofs.KeptLemmas.{kept_sound, sound_kept}
use Rattle.amqp_core.proofs.end.End.open_channel.Goals as goal

pub ask-requires : goal.ask-requires
ask-requires g c = kept_sound c.args.self.now.inner c.args.self.now.kept

pub invariant_of-self : goal.invariant_of-self
invariant_of-self g c = record {
  kept = sound_kept c.ask.new.self c.ask.ensures.sound;
  plays = ap (λ (s : Settings). role_for s) c.ask.ensures.settings ∙ c.args.self.now.plays;
  gathers = ap (λ (s : Settings). s.lends) c.ask.ensures.settings ∙ c.args.self.now.gathers;
}
