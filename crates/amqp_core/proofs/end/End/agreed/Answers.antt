-- What was agreed is what every history counts.
use Rattle.std.proofs.Common.{false}
use Rattle.amqp_channel.specs.Events.EventView.{agreed_there}
use Rattle.amqp_core.specs.End.View.{config_at, endpoint_of, role_played}
use Rattle.amqp_core.proofs.QueryLemmas.{agreed_is}
use Rattle.amqp_core.proofs.end.End.agreed.Goals as goal

pub returns-clause-history : goal.returns-clause-history
returns-clause-history g c = λ history fed written stands.
    let end = c.args.self.now in
    agreed_is (role_played end) (config_at end) false (endpoint_of end).end history (agreed_there c.agreed.result) stands.stands c.agreed.ensures
