-- Whatever the body is, the same refusals apply as to a content without one.
use Rattle.std.proofs.Common.{[], sym, ap, ◌∙◌}
use Rattle.amqp_method.specs.HeaderView.{properties_view}
use Rattle.amqp_method.specs.MethodView.{method_view}
use Rattle.amqp_method.specs.Messages.{Letter}
use Rattle.amqp_model.specs.End.Asks.{Send, refusal}
use Rattle.amqp_channel.specs.Events.EventView.{message_of}
use Rattle.amqp_core.specs.Config.Settings.{role_for}
use Rattle.amqp_core.specs.Connection.View.{connection_end}
use Rattle.amqp_core.proofs.ContentLemmas.{refused_alike}
use Rattle.amqp_core.proofs.connection.Connection.allow_content.Goals as goal

pub returns-in-Ok-clause-allowed : goal.returns-in-Ok-clause-allowed
returns-in-Ok-clause-allowed c = λ body.
    let role = role_for c.args.self.now.settings in
    let end = connection_end c.args.self.now in
    refused_alike role end c.args.number (method_view c.args.method.now) (properties_view c.args.properties.now) body []
    ∙ (sym (ap (λ (l : Letter). refusal role end (Send c.args.number (message_of l))) c.content-message.ensures) ∙ c.in-Ok.ensures.allowed)

pub returns-in-Err-clause-refused : goal.returns-in-Err-clause-refused
returns-in-Err-clause-refused c = λ body.
    let role = role_for c.args.self.now.settings in
    let end = connection_end c.args.self.now in
    c.in-Err.ensures.refused
    ∙ (ap (λ (l : Letter). refusal role end (Send c.args.number (message_of l))) c.content-message.ensures
    ∙ refused_alike role end c.args.number (method_view c.args.method.now) (properties_view c.args.properties.now) [] body)
