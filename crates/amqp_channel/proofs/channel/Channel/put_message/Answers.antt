use Rattle.amqp_method.specs.MethodView.{method_view}
use Rattle.amqp_channel.specs.Roles.{role_of}
use Rattle.amqp_channel.proofs.PutLemmas.{message_goes}
use Rattle.amqp_channel.proofs.channel.Channel.put_message.Goals as goal

pub returns-clause-ok : goal.returns-clause-ok
returns-clause-ok c =
    message_goes (role_of c.args.site.side) c.args.site.number (method_view c.args.method.now) _ _ _
    c.put_method.ensures.open c.put_method.ensures.ok
