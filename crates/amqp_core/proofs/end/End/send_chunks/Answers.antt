-- What holds of the end holds of its endpoint.
use Rattle.std.proofs.Common.{refl, ap, ◌∙◌}
use Rattle.amqp_core.specs.Config.Settings.{role_for}
use Rattle.amqp_core.specs.declared.settings.Settings.{Settings}
use Rattle.amqp_core.specs.Faults.Blamed.{Tally}
use Rattle.amqp_core.proofs.KeptLemmas.{kept_sound, sound_kept}
use Rattle.amqp_core.proofs.end.End.send_chunks.Goals as goal

pub send_chunks-requires-clause-sound : goal.send_chunks-requires-clause-sound
send_chunks-requires-clause-sound g c = kept_sound c.args.self.now.inner c.args.self.now.kept

pub invariant_of-self : goal.invariant_of-self
invariant_of-self g c = record {
  kept = sound_kept c.send_chunks.new.self c.send_chunks.ensures.sound;
  plays = ap (λ (s : Settings). role_for s) c.send_chunks.ensures.settings ∙ c.args.self.now.plays;
  gathers = ap (λ (s : Settings). s.lends) c.send_chunks.ensures.settings ∙ c.args.self.now.gathers;
}

pub returns-clause-asked : goal.returns-clause-asked
returns-clause-asked g c = λ content.
    record {
      accepted = c.send_chunks.ensures.accepted;
      refused = c.send_chunks.ensures.refused;
      settings = c.send_chunks.ensures.settings;
      counters = ap (λ (t : Tally). record { frames = c.args.self.now.frames_taken; octets = c.args.self.now.octets_written; tally = t }) c.send_chunks.ensures.tally;
      heard = refl;
    }
