-- What was agreed is what its history counts.
use Rattle.amqp_channel.specs.Events.EventView.{agreed_there}
use Rattle.amqp_core.specs.End.Counted.{is_failed}
use Rattle.amqp_core.specs.Traced.View.{config_at, role_played, traced_of}
use Rattle.amqp_core.proofs.QueryLemmas.{agreed_is, standing}
use Rattle.amqp_core.proofs.traced.Traced.agreed.Goals as goal

pub returns-clause-history : goal.returns-clause-history
returns-clause-history g c =
    let self = c.args.self.now in
    let role = role_played self in
    let config = config_at self in
    let kept = traced_of self in
    record {
      one = self.traces;
      each = λ history traced. agreed_is role config (is_failed kept.endpoint.end.phase) kept.endpoint.end history (agreed_there c.agreed.result) (standing role config kept history traced.stands).stands c.agreed.ensures.agreed;
    }
