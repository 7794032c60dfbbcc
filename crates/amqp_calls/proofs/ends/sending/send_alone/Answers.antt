use Rattle.std.proofs.Common.{refl, subst}
use Rattle.amqp_method.specs.MessageView.{message_view}
use Rattle.amqp_model.specs.End.Asks.{Send}
use Rattle.amqp_channel.specs.Events.EventView.{message_of}
use Rattle.amqp_core.specs.Stream.Asks.{StreamAsked}
use Rattle.amqp_calls.proofs.ends.sending.send_alone.Goals as goal

pub returns : goal.returns
returns g c =
    let old = c.args.kept.now.end.value in
    let new = c.send.new.self in
    let sends = subst (λ end. StreamAsked end (Send c.args.channel (message_of (message_view c.plain-message.result))) c.send.result new)
    c.deref_mut.ensures.value c.send.ensures in
    record {
      answer = c.send.result;
      asked = subst (λ letter. StreamAsked old (Send c.args.channel (message_of letter)) c.send.result new) c.plain-message.ensures sends;
      told = c.asked-answer.ensures;
      gathering = refl;
    }
