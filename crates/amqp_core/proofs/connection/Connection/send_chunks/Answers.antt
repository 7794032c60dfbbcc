use Rattle.std.proofs.Common.{refl}
use Rattle.std.proofs.lemmas.Result.{err_from_is_err_and}
use Rattle.amqp_method.specs.HeaderView.{properties_view}
use Rattle.amqp_method.specs.MethodView.{method_view}
use Rattle.amqp_method.specs.Messages.{letter_with}
use Rattle.amqp_channel.specs.Channels.ChannelsView.{channels_view}
use Rattle.amqp_channel.specs.Events.EventView.{message_of}
use Rattle.amqp_core.proofs.AskLemmas.{all_are_put, carries_if, message_put}
use Rattle.amqp_core.proofs.connection.Connection.send_chunks.Goals as goal

pub returns-clause-accepted : goal.returns-clause-accepted
returns-clause-accepted c =
    let agreed = c.in_ok-agreed.agreed in
    let method = method_view c.args.method.now in
    let properties = properties_view c.args.properties.now in
    let body = c.args.chunks.now in
    let message = message_of (letter_with method properties body) in
    message_put c.args.self.now.settings c.args.self.now.stage agreed c.args.number c.site-site.result message (channels_view c.args.self.now.channels)
    (channels_view c.put_message.new.self) c.args.outbox.now c.put.new.self
    (record { running_is = c.in_ok-agreed.ensures.running; site_is = c.site-site.ensures; above = c.in_ok-agreed.ensures.above })
    (c.in_ok-agreed.ensures.allowed body) (c.in-Ok-put_message.ensures.at agreed.frame_max message refl, c.in-Ok-put_message.ensures.others)
    (all_are_put c.args.outbox.now c.stage_chunks-staged.new.outbox c.put.new.self _ c.requires.staged c.in-Ok.ensures.ok c.put.ensures)
    c.in-Ok.ensures.reads_back (carries_if method c.requires.content)

pub returns-in_err-agreed-clause-refused : goal.returns-in_err-agreed-clause-refused
returns-in_err-agreed-clause-refused c =
    let p = err_from_is_err_and c.from_residual.result c.from_residual.ensures.1 in
    rw (p.1, p.2) (record { refused = c.in_err-agreed.ensures.refused c.args.chunks.now; end_same = refl; output_same = refl })
