-- What holds of the message that is lent holds of its parts.
use Rattle.std.proofs.Common.{subst}
use Rattle.amqp_method.specs.Messages.{Letter}
use Rattle.amqp_model.specs.End.Asks.{Send}
use Rattle.amqp_channel.specs.Events.EventView.{message_of}
use Rattle.amqp_core.specs.Stream.Asks.{StreamAsked}
use Rattle.amqp_core.proofs.stream.StreamEnd.send_content.Goals as goal

pub returns-clause-asked : goal.returns-clause-asked
returns-clause-asked g c = λ content.
    subst (λ (m : Letter). StreamAsked c.args.self.now (Send c.args.channel (message_of m)) c.put_message.result c.put_message.new.self) c.content-message.ensures c.put_message.ensures
