-- The heartbeat that was agreed is the one that its history counts.
use Rattle.std.proofs.Common.{refl, ap, ◌∙◌}
use Rattle.amqp_core.specs.End.Counted.{heartbeat_in, is_failed}
use Rattle.amqp_core.specs.Traced.View.{config_at, role_played, traced_of}
use Rattle.amqp_core.proofs.QueryLemmas.{agreed_is, standing}
use Rattle.amqp_core.proofs.traced.Traced.heartbeat.Goals as goal

pub returns-clause-history : goal.returns-clause-history
returns-clause-history g c =
    let self = c.args.self.now in
    let role = role_played self in
    let config = config_at self in
    let kept = traced_of self in
    record {
      one = self.traces;
      each = λ history traced.
          c.heartbeat.ensures.agreed
          ∙ ap heartbeat_in
          (agreed_is role config (is_failed kept.endpoint.end.phase) kept.endpoint.end history kept.endpoint.end.agreed
          (standing role config kept history traced.stands).stands refl);
    }
