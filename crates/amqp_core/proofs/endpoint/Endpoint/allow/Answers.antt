-- The frame size was agreed within the limits.
use Rattle.std.proofs.Common.{false}
use Rattle.amqp_core.specs.Asks.View.{lent_view}
use Rattle.amqp_core.specs.Connection.View.{connection_end}
use Rattle.amqp_core.specs.End.EndpointView.{endpoint_view, role_at}
use Rattle.amqp_core.proofs.AskedLemmas.{refused_at_once}
use Rattle.amqp_core.proofs.endpoint.Endpoint.allow.Goals as goal

pub returns-clause-refused : goal.returns-clause-refused
returns-clause-refused c = refused_at_once (role_at c.args.self.now) (lent_view c.args.ask) c.allow.result (endpoint_view c.args.self.now) c.allow.ensures.refused
    (λ config history. c.ask_is_of_history.ensures (role_at c.args.self.now) config false (connection_end c.args.self.now.connection) history (lent_view c.args.ask))
