-- The heartbeat that was agreed is the one that every history counts.
use Rattle.std.proofs.Common.{false, refl, ap, ◌∙◌}
use Rattle.amqp_core.specs.End.Counted.{heartbeat_in}
use Rattle.amqp_core.specs.End.View.{config_at, endpoint_of, role_played}
use Rattle.amqp_core.proofs.QueryLemmas.{agreed_is}
use Rattle.amqp_core.proofs.end.End.heartbeat.Goals as goal

pub returns-clause-history : goal.returns-clause-history
returns-clause-history g c = λ history fed written stands.
    let end = c.args.self.now in
    c.heartbeat.ensures
    ∙ ap heartbeat_in (agreed_is (role_played end) (config_at end) false (endpoint_of end).end history (endpoint_of end).end.agreed stands.stands refl)
