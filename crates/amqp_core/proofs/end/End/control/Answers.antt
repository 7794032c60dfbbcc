-- What holds of the end holds of its endpoint.
use Rattle.std.proofs.Common.{refl, ap, ◌∙◌}
use Rattle.amqp_core.specs.Config.Settings.{role_for}
use Rattle.amqp_core.specs.declared.settings.Settings.{Settings}
use Rattle.amqp_core.specs.Faults.Blamed.{Tally}
use Rattle.amqp_core.proofs.KeptLemmas.{kept_sound, sound_kept}
use Rattle.amqp_core.proofs.end.End.control.Goals as goal

pub control-requires : goal.control-requires
control-requires g c = kept_sound c.args.self.now.inner c.args.self.now.kept

pub invariant_of-self : goal.invariant_of-self
invariant_of-self g c = record {
  kept = sound_kept c.control.new.self c.control.ensures.sound;
  plays = ap (λ (s : Settings). role_for s) c.control.ensures.settings ∙ c.args.self.now.plays;
  gathers = ap (λ (s : Settings). s.lends) c.control.ensures.settings ∙ c.args.self.now.gathers;
}

pub returns : goal.returns
returns g c = record {
  accepted = c.control.ensures.accepted;
  refused = c.control.ensures.refused;
  settings = c.control.ensures.settings;
  counters = ap (λ (t : Tally). record { frames = c.args.self.now.frames_taken; octets = c.args.self.now.octets_written; tally = t }) c.control.ensures.tally;
  heard = refl;
}
