-- What holds of the end holds of its endpoint.
use Rattle.std.proofs.Common.{ap, ◌∙◌}
use Rattle.amqp_core.specs.Config.Settings.{role_for}
use Rattle.amqp_core.specs.declared.settings.Settings.{Settings}
use Rattle.amqp_core.proofs.KeptLemmas.{kept_sound, sound_kept}
use Rattle.amqp_core.proofs.end.End.run_out.Goals as goal

pub run_out-requires : goal.run_out-requires
run_out-requires g c = record { sound = kept_sound c.args.self.now.inner c.args.self.now.kept }

pub invariant_of-self : goal.invariant_of-self
invariant_of-self g c = record {
  kept = sound_kept c.run_out.new.self c.run_out.ensures.sound;
  plays = ap (λ (s : Settings). role_for s) c.run_out.ensures.settings ∙ c.args.self.now.plays;
  gathers = ap (λ (s : Settings). s.lends) c.run_out.ensures.settings ∙ c.args.self.now.gathers;
}
