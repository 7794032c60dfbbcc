-- What came of the piece is lent, and the histories go on by the end that gathers.
use Rattle.std.proofs.Common.{◌≡◌, ◌≢◌, ◌<◌, ◌≤◌, Bool, true, ℕ, List, [], length, ap, ◌∙◌, sym, subst, refl, arith}
use Rattle.std.proofs.Math.Logic.{∥∥₁_map}
use Rattle.amqp_model.specs.History.Histories.{History}
use Rattle.amqp_model.specs.Laws.StreamingLaws.{StreamStandsFor}
use Rattle.amqp_model.specs.Stream.Endpoint.{after_feed}
use Rattle.amqp_core.specs.Faults.Answering.{ran_out}
use Rattle.amqp_core.specs.End.EndpointView.{endpoint_view}
use Rattle.amqp_core.specs.Config.Settings.{role_for}
use Rattle.amqp_core.specs.Stream.StepView.{step_seen}
use Rattle.amqp_core.specs.Stream.History.{StreamGoesOn}
use Rattle.amqp_core.specs.Heard.View.{heard_view}
use Rattle.amqp_core.specs.Stream.View.{config_at, endpoint_of, heard_in, role_played}
use Rattle.amqp_core.specs.declared.settings.Settings.{Settings}
use Rattle.amqp_core.proofs.BlameLemmas.{blames_as, code_step}
use Rattle.amqp_core.proofs.FeedFaultLemmas.{lent_faults}
use Rattle.amqp_core.proofs.HeardLemmas.{lent_heard}
use Rattle.amqp_core.proofs.HearingLemmas.{by_lent, stream_hears_on}
use Rattle.amqp_core.proofs.KeptLemmas.{kept_sound, sound_kept}
use Rattle.amqp_core.proofs.StreamHistoryLemmas.{stream_goes_on}
use Rattle.amqp_core.proofs.StreamLemmas.{count_step, ok_step, ran_step}
use Rattle.amqp_core.proofs.stream.StreamEnd.advance.Goals as goal

pub advance-answer-requires-clause-sound : goal.advance-answer-requires-clause-sound
advance-answer-requires-clause-sound g c = kept_sound c.args.self.now.inner c.args.self.now.kept

pub invariant_of-self : goal.invariant_of-self
invariant_of-self g c = record {
  kept = sound_kept c.advance-answer.new.self c.advance-answer.ensures.sound;
  plays = ap (λ (s : Settings). role_for s) c.advance-answer.ensures.settings ∙ c.args.self.now.plays;
  lends = ap (λ (s : Settings). s.lends) c.advance-answer.ensures.settings ∙ c.args.self.now.lends;
}

pub returns-clause-lends : goal.returns-clause-lends
returns-clause-lends g c =
    let old = c.args.self.now in
    let role = role_played old in
    let config = config_at old in
    let piece = c.args.piece.now in
    let given = c.advance-answer.new.self.splitter.given in
    let seen = step_seen c.advance-answer.result given in
    let new = endpoint_view c.advance-answer.new.self in
    let memory = λ (ran : ran_out seen ≡ true). c.advance-answer.ensures.memory (sym (ran_step c.advance-answer.result given) ∙ ran) in
    let heard = lent_heard c.advance-answer.result given role config (endpoint_of old) piece _ (heard_in old) (heard_view c.advance-answer.new.heard) c.advance-answer.ensures.heard in
    let goes = λ (history : History) (fed written : List ℕ) (s : StreamStandsFor role config (endpoint_of old) history fed written).
    stream_goes_on role config seen (endpoint_of old) new history fed written piece (c.failed_follows.ensures.read role config)
    (λ endpoint. c.memory_runs_out.ensures.stands role config endpoint history fed written)
    (λ endpoint. c.octets_follow.ensures.feed role config endpoint history fed written piece)
    (λ i. omega (arith, c.type_inv.piece i)) old.kept.writes memory c.alike_endpoints_stay_alike.ensures.fed c.advance-answer.ensures.lent s in
    record {
      lent = c.advance-answer.ensures.lent;
      within = count_step c.advance-answer.result given (λ n. n ≤ length piece) c.advance-answer.ensures.within;
      progress = count_step c.advance-answer.result given (λ n. piece ≢ [] → 0 < n) c.advance-answer.ensures.progress;
      in_place = λ drops. ok_step c.advance-answer.result given (c.advance-answer.ensures.in_place drops);
      history = goes;
      memory = memory;
      faults = lent_faults role config seen (endpoint_of old) new piece c.advance-answer.ensures.lent
          (c.cut_changes_nothing.ensures.closed role config (endpoint_of old) piece) (c.cut_changes_nothing.ensures.failed role config (endpoint_of old) piece)
          memory c.advance-answer.ensures.over;
      octets = refl;
      blames = blames_as role c.advance-answer.result seen (endpoint_of old) piece _ _ _ (code_step c.advance-answer.result given) (ran_step c.advance-answer.result given) c.advance-answer.ensures.tally;
      heard = heard;
      hearing = λ takes out history fed written s kept.
          ∥∥₁_map (subst (λ (b : Bool). ∥ StreamGoesOn role config b (endpoint_of old) history fed written piece new ∥₁) out (goes history fed written s))
          (λ on. stream_hears_on role config (endpoint_of old) new history fed written piece _ _ c.heard_is_kept.ensures.follows c.heard_is_kept.ensures.stays
          c.heard_is_kept.ensures.alike c.alike_endpoints_stay_alike.ensures.fed takes
          (by_lent role config seen (endpoint_of old) piece (after_feed role config (endpoint_of old) piece) (heard_in old) (heard_view c.advance-answer.new.heard) out c.advance-answer.ensures.lent.answer heard) kept on);
      settings = c.advance-answer.ensures.settings;
    }
