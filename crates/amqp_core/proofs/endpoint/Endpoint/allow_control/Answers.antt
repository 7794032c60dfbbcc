use Rattle.std.proofs.Common.{false}
use Rattle.amqp_core.specs.Connection.View.{connection_end}
use Rattle.amqp_core.specs.Asks.ControlView.{control_view}
use Rattle.amqp_core.specs.End.EndpointView.{endpoint_view, role_at}
use Rattle.amqp_core.specs.Config.Settings.{config_view}
use Rattle.amqp_core.proofs.ControlLemmas.{refused_at_once}
use Rattle.amqp_core.proofs.endpoint.Endpoint.allow_control.Goals as goal

pub returns-clause-refused : goal.returns-clause-refused
returns-clause-refused c =
    let self = c.args.self.now in
    refused_at_once (role_at self) (config_view self.connection.settings) (control_view c.args.control) c.allow_control.result (endpoint_view self)
    c.allow_control.ensures.refused
    (λ history. c.controls_follow.ensures.history (role_at self) (config_view self.connection.settings) false (connection_end self.connection) history (control_view c.args.control))
