-- What holds of the end holds of its endpoint.
use Rattle.std.proofs.Common.{◌≡◌, Bool, ap, sym, ◌∙◌, subst, arith}
use Rattle.amqp_model.specs.Stream.Endpoint.{after_feed}
use Rattle.amqp_channel.specs.Events.PartsView.{parts_there}
use Rattle.amqp_core.specs.Traced.AccountView.{taken_by}
use Rattle.amqp_core.specs.Faults.Answering.{ran_out}
use Rattle.amqp_core.specs.End.Following.{GoesOn}
use Rattle.amqp_core.proofs.FeedLemmas.{ran_with}
use Rattle.amqp_core.specs.End.View.{config_at, endpoint_of, role_played}
use Rattle.amqp_core.specs.End.EndpointView.{endpoint_view}
use Rattle.amqp_core.proofs.FollowLemmas.{piece_goes_on}
use Rattle.amqp_core.specs.Config.Settings.{role_for}
use Rattle.amqp_core.specs.declared.settings.Settings.{Settings}
use Rattle.amqp_core.proofs.KeptLemmas.{kept_sound, sound_kept}
use Rattle.amqp_core.proofs.end.End.advance.Goals as goal

pub feed-answer-requires-clause-sound : goal.feed-answer-requires-clause-sound
feed-answer-requires-clause-sound g c = kept_sound c.args.self.now.inner c.args.self.now.kept

pub returns-clause-history : goal.returns-clause-history
returns-clause-history g c = λ history fed written stands.
    let old = c.args.self.now in
    let account = c.feed-answer.new.account in
    let ran : ran_out (taken_by c.feed-answer.result account) ≡ ran_out c.feed-answer.result = ran_with c.feed-answer.result account.octets (parts_there account.parts) in
    subst (λ (b : Bool). ∥ GoesOn (role_played old) (config_at old) b (endpoint_of old) history fed written c.args.piece.now (after_feed (role_played old) (config_at old) (endpoint_of old) c.args.piece.now) (endpoint_view c.feed-answer.new.self) ∥₁) ran
    (piece_goes_on (role_played old) (config_at old) (taken_by c.feed-answer.result account) (endpoint_of old) (endpoint_view c.feed-answer.new.self) history fed written c.args.piece.now
    (c.failed_follows.ensures.read (role_played old) (config_at old))
    (c.memory_runs_out.ensures.stands (role_played old) (config_at old) (endpoint_of old) history fed written)
    (c.octets_follow.ensures.feed (role_played old) (config_at old) (endpoint_of old) history fed written c.args.piece.now)
    (λ i. omega (arith, c.type_inv.piece i)) old.kept.writes (λ e. c.feed-answer.ensures.memory (sym ran ∙ e)) c.feed-answer.ensures.fed stands)

pub invariant_of-self : goal.invariant_of-self
invariant_of-self g c = record {
  kept = sound_kept c.feed-answer.new.self c.feed-answer.ensures.sound;
  plays = ap (λ (s : Settings). role_for s) c.feed-answer.ensures.settings ∙ c.args.self.now.plays;
  gathers = ap (λ (s : Settings). s.lends) c.feed-answer.ensures.settings ∙ c.args.self.now.gathers;
}
