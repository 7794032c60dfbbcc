use Rattle.std.proofs.Common.{refl, [], map}
use Rattle.std.proofs.lemmas.Result.{err_from_is_err_and}
use Rattle.amqp_method.specs.HeaderView.{properties_view}
use Rattle.amqp_method.specs.MethodView.{method_view}
use Rattle.amqp_method.specs.Messages.{letter_with}
use Rattle.amqp_model.specs.End.Asks.{payload_frame, message_payloads}
use Rattle.amqp_model.specs.Output.Outputs.{after_puts}
use Rattle.amqp_outbox.specs.OutboxView.{Outgoing, begins_with, only}
use Rattle.amqp_channel.specs.Channels.ChannelsView.{channels_view}
use Rattle.amqp_channel.specs.Events.EventView.{message_of}
use Rattle.amqp_core.proofs.AskLemmas.{carries_if, message_put}
use Rattle.amqp_core.proofs.connection.Connection.begin_content.Goals as goal

-- what the frames make of the end they make with any output
pub returns-clause-end : goal.returns-clause-end
returns-clause-end c = λ body sized.
    let agreed = c.in_ok-agreed.agreed in
    let method = method_view c.args.method.now in
    let properties = properties_view c.args.properties.now in
    let message = message_of (letter_with method properties body) in
    let nothing : Outgoing = begins_with [] in
    let frames = map (payload_frame c.args.number) (message_payloads agreed.frame_max message) in
    (message_put c.args.self.now.settings c.args.self.now.stage agreed c.args.number c.site-site.result message (channels_view c.args.self.now.channels)
    (channels_view c.put_message.new.self) nothing (only (after_puts frames nothing.output))
    (record { running_is = c.in_ok-agreed.ensures.running; site_is = c.site-site.ensures; above = c.in_ok-agreed.ensures.above })
    (c.in_ok-agreed.ensures.allowed body) (c.in-Ok.ensures.at agreed.frame_max message refl, c.put_message.ensures.others)
    refl (c.in_ok-writer.ensures.reads_back body sized) (carries_if method c.requires.content)).end_is

pub returns-in_err-agreed-clause-refused : goal.returns-in_err-agreed-clause-refused
returns-in_err-agreed-clause-refused c =
    let p = err_from_is_err_and c.from_residual.result c.from_residual.ensures.1 in
    rw (p.1, p.2) (λ body. c.in_err-agreed.ensures.refused body)
