use Rattle.std.proofs.Common.{refl, subst}
use Rattle.amqp_method.specs.HeaderView.{properties_view}
use Rattle.amqp_method.specs.Messages.{letter_with}
use Rattle.amqp_method.specs.MethodView.{method_view}
use Rattle.amqp_model.specs.End.Asks.{Send}
use Rattle.amqp_channel.specs.Events.EventView.{message_of}
use Rattle.amqp_core.specs.Stream.Asks.{StreamAsked}
use Rattle.amqp_calls.proofs.ends.sending.send_whole.Goals as goal

pub returns : goal.returns
returns g c =
    let letter = letter_with (method_view c.args.method.now) (properties_view c.args.properties.now) c.args.body.now in
    record {
      answer = c.send_content.result;
      asked = subst (λ end. StreamAsked end (Send c.args.channel (message_of letter)) c.send_content.result c.send_content.new.self)
          c.deref_mut.ensures.value (c.send_content.ensures.asked c.requires);
      told = c.asked.ensures;
      gathering = refl;
    }
