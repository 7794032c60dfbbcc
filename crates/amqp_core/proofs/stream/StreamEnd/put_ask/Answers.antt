-- What holds of the end holds of its endpoint, and the histories go on by the end that gathers.
use Rattle.std.proofs.Common.{ap, ◌∙◌, false, refl}
use Rattle.amqp_model.specs.End.Asks.{frames_asked}
use Rattle.amqp_core.specs.Asks.View.{lent_view}
use Rattle.amqp_core.specs.Asks.Effects.{AcceptsAsk}
use Rattle.amqp_core.specs.End.EndpointView.{endpoint_view}
use Rattle.amqp_core.specs.Config.Settings.{role_for}
use Rattle.amqp_core.specs.Stream.History.{StreamAskGoesOn}
use Rattle.amqp_core.specs.Stream.View.{config_at, endpoint_of, role_played}
use Rattle.amqp_core.specs.declared.settings.Settings.{Settings}
use Rattle.amqp_core.specs.Faults.Blamed.{Tally}
use Rattle.amqp_core.proofs.KeptLemmas.{kept_sound, sound_kept}
use Rattle.amqp_core.proofs.StreamHistoryLemmas.{ok_map, stream_ask_goes_on, stream_ask_is_of_history}
use Rattle.amqp_core.proofs.stream.StreamEnd.put_ask.Goals as goal

pub ask-requires : goal.ask-requires
ask-requires g c = kept_sound c.args.self.now.inner c.args.self.now.kept

pub invariant_of-self : goal.invariant_of-self
invariant_of-self g c = record {
  kept = sound_kept c.ask.new.self c.ask.ensures.sound;
  plays = ap (λ (s : Settings). role_for s) c.ask.ensures.settings ∙ c.args.self.now.plays;
  lends = ap (λ (s : Settings). s.lends) c.ask.ensures.settings ∙ c.args.self.now.lends;
}

pub returns-clause-asked : goal.returns-clause-asked
returns-clause-asked g c =
    let old = c.args.self.now in
    let role = role_played old in
    let config = config_at old in
    let asked = lent_view c.args.ask in
    let new = endpoint_view c.ask.new.self in
    record {
      accepted = c.ask.ensures.accepted;
      refused = c.ask.ensures.refused;
      history = ok_map c.ask.result (AcceptsAsk role config asked (endpoint_of old) new) (StreamAskGoesOn role config asked (endpoint_of old) new)
          (λ accepts. stream_ask_goes_on role config asked (endpoint_of old) new accepts old.kept.fields.agreed
          (c.frames_fit.ensures.asked role (endpoint_of old).end asked (frames_asked (endpoint_of old).end asked))
          (λ endpoint history fed written. c.octets_follow.ensures.accepted role config endpoint history fed written asked (frames_asked (endpoint_of old).end asked))
          c.alike_ends_ask_alike.ensures.answer c.alike_endpoints_stay_alike.ensures.asked) c.ask.ensures.accepted;
      of_history = stream_ask_is_of_history role config asked (endpoint_of old)
          (λ end history. c.ask_is_of_history.ensures role config false end history asked) c.alike_ends_ask_alike.ensures.answer;
      settings = c.ask.ensures.settings;
      counters = ap (λ (t : Tally). record { frames = old.frames_taken; octets = old.octets_written; tally = t }) c.ask.ensures.tally;
      heard = refl;
    }
