-- No content is under way, so it stands for the same histories.
use Rattle.std.proofs.Common.{ap, ◌∙◌, refl}
use Rattle.amqp_core.specs.End.EndpointView.{endpoint_view}
use Rattle.amqp_core.specs.Config.Settings.{role_for}
use Rattle.amqp_core.specs.Stream.View.{config_at, endpoint_of, role_played}
use Rattle.amqp_core.specs.declared.settings.Settings.{Settings}
use Rattle.amqp_core.specs.Faults.Blamed.{Tally}
use Rattle.amqp_core.proofs.KeptLemmas.{kept_sound, sound_kept}
use Rattle.amqp_core.proofs.TurningLemmas.{turns_back}
use Rattle.amqp_core.proofs.stream.StreamEnd.into_end.Goals as goal

pub gather-requires : goal.gather-requires
gather-requires g c = kept_sound c.args.self.inner c.args.self.kept

pub invariant_of-result : goal.invariant_of-result
invariant_of-result g c = record {
  kept = sound_kept c.gather.new.self c.if-gather.ensures.sound;
  plays = ap (λ (s : Settings). role_for s) c.if-gather.ensures.settings ∙ c.args.self.plays;
  gathers = ap (λ (s : Settings). s.lends) c.if-gather.ensures.settings;
}

pub invariant_of-result-2 : goal.invariant_of-result-2
invariant_of-result-2 g c = record {
  kept = sound_kept c.gather.new.self c.if-gather.ensures.sound;
  plays = ap (λ (s : Settings). role_for s) c.if-gather.ensures.settings ∙ c.args.self.plays;
  lends = ap (λ (s : Settings). s.lends) c.if-gather.ensures.settings ∙ c.args.self.lends;
}

pub returns-then-gather-clause-ok : goal.returns-then-gather-clause-ok
returns-then-gather-clause-ok g c =
    let end = c.args.self in
    record {
      endpoint = c.if-gather.ensures.view;
      counters = ap (λ (t : Tally). record { frames = end.frames_taken; octets = end.octets_written; tally = t }) c.if-gather.ensures.tally;
      heard = refl;
      history = λ history fed written s.
          turns_back (role_played end) (config_at end) (endpoint_of end) (endpoint_view c.gather.new.self) history fed written c.if-gather.ensures.view (c.if-gather.ensures.none refl) s;
    }
