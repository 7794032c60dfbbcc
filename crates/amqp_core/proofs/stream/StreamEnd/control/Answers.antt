-- What holds of the end holds of its endpoint, and the histories go on by the end that gathers.
use Rattle.std.proofs.Common.{refl, ap, ◌∙◌, false}
use Rattle.amqp_core.specs.Asks.ControlView.{control_view}
use Rattle.amqp_core.specs.Asks.Controlled.{frames_by}
use Rattle.amqp_core.specs.Asks.Controlling.{AcceptsControl, verdict_at}
use Rattle.amqp_core.specs.End.EndpointView.{endpoint_view}
use Rattle.amqp_core.specs.Config.Settings.{role_for}
use Rattle.amqp_core.specs.Stream.History.{StreamControlGoesOn}
use Rattle.amqp_core.specs.Stream.View.{config_at, endpoint_of, role_played}
use Rattle.amqp_core.specs.declared.settings.Settings.{Settings}
use Rattle.amqp_core.specs.Faults.Blamed.{Tally}
use Rattle.amqp_core.proofs.KeptLemmas.{kept_sound, sound_kept}
use Rattle.amqp_core.proofs.StreamHistoryLemmas.{ok_map, stream_control_goes_on, stream_control_is_of_history}
use Rattle.amqp_core.proofs.stream.StreamEnd.control.Goals as goal

pub control-requires : goal.control-requires
control-requires g c = kept_sound c.args.self.now.inner c.args.self.now.kept

pub invariant_of-self : goal.invariant_of-self
invariant_of-self g c = record {
  kept = sound_kept c.control.new.self c.control.ensures.sound;
  plays = ap (λ (s : Settings). role_for s) c.control.ensures.settings ∙ c.args.self.now.plays;
  lends = ap (λ (s : Settings). s.lends) c.control.ensures.settings ∙ c.args.self.now.lends;
}

pub returns : goal.returns
returns g c =
    let old = c.args.self.now in
    let role = role_played old in
    let config = config_at old in
    let asked = control_view c.args.control in
    let new = endpoint_view c.control.new.self in
    let frames = frames_by (verdict_at role config asked (endpoint_of old)) in
    record {
      accepted = c.control.ensures.accepted;
      refused = c.control.ensures.refused;
      history = ok_map c.control.result (AcceptsControl role config asked (endpoint_of old) new) (StreamControlGoesOn role config asked (endpoint_of old) new)
          (λ accepts. stream_control_goes_on role config asked (endpoint_of old) new accepts (kept_sound old.inner old.kept).writes
          (c.owed_read_back.ensures.all role config)
          (λ endpoint history fed written. c.controls_follow_octets.ensures.accepted role config endpoint history fed written asked frames)
          c.controls_follow_octets.ensures.answer c.controls_follow_octets.ensures.alike) c.control.ensures.accepted;
      of_history = stream_control_is_of_history role config asked (endpoint_of old)
          (λ end history. c.controls_follow.ensures.history role config false end history asked) c.controls_follow_octets.ensures.answer;
      settings = c.control.ensures.settings;
      counters = ap (λ (t : Tally). record { frames = c.args.self.now.frames_taken; octets = c.args.self.now.octets_written; tally = t }) c.control.ensures.tally;
      heard = refl;
    }
