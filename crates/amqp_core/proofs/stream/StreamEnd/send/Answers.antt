-- What holds of the message that is lent holds of the message.
use Rattle.std.proofs.Common.{subst}
use Rattle.amqp_model.specs.End.Events.{Message}
use Rattle.amqp_model.specs.End.Asks.{Send}
use Rattle.amqp_core.specs.Stream.Asks.{StreamAsked}
use Rattle.amqp_core.proofs.stream.StreamEnd.send.Goals as goal

pub returns : goal.returns
returns g c =
    subst (λ (m : Message). StreamAsked c.args.self.now (Send c.args.channel m) c.put_message.result c.put_message.new.self) c.of.ensures c.put_message.ensures
