-- What it keeps stays, so it stands for the same histories.
use Rattle.std.proofs.Common.{ap, ◌∙◌, refl}
use Rattle.amqp_core.specs.End.View.{config_at, endpoint_of, role_played}
use Rattle.amqp_core.specs.End.EndpointView.{endpoint_view}
use Rattle.amqp_core.specs.Config.Settings.{role_for}
use Rattle.amqp_core.specs.declared.settings.Settings.{Settings}
use Rattle.amqp_core.specs.Faults.Blamed.{Tally}
use Rattle.amqp_core.proofs.KeptLemmas.{kept_sound, sound_kept}
use Rattle.amqp_core.proofs.TurningLemmas.{turns_lending}
use Rattle.amqp_core.proofs.end.End.into_stream.Goals as goal

pub lend-requires : goal.lend-requires
lend-requires g c = kept_sound c.args.self.inner c.args.self.kept

pub invariant_of-result : goal.invariant_of-result
invariant_of-result g c = record {
  kept = sound_kept c.lend.new.self c.lend.ensures.sound;
  plays = ap (λ (s : Settings). role_for s) c.lend.ensures.settings ∙ c.args.self.plays;
  lends = ap (λ (s : Settings). s.lends) c.lend.ensures.settings;
}

pub returns : goal.returns
returns g c =
    let end = c.args.self in
    record {
      endpoint = c.lend.ensures.view;
      counters = ap (λ (t : Tally). record { frames = end.frames_taken; octets = end.octets_written; tally = t }) c.lend.ensures.tally;
      settings = c.lend.ensures.settings;
      heard = refl;
      history = λ history fed written stands. turns_lending (role_played end) (config_at end) (endpoint_of end) (endpoint_view c.lend.new.self) history fed written c.lend.ensures.view stands;
    }
