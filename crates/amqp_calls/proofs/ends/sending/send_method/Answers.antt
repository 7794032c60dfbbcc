use Rattle.std.proofs.Common.{refl, inl, inr, sym}
use Rattle.amqp_method.specs.Messages.{letter_alone}
use Rattle.amqp_method.specs.MethodView.{method_view}
use Rattle.amqp_calls.specs.Sending.SendsOne.{sent, unmade}
use Rattle.amqp_calls.specs.declared.ends.messages.Unmade.TheVariants.{Misfit}
use Rattle.amqp_calls.proofs.Sent.{none_there, some_there}
use Rattle.amqp_calls.proofs.ends.sending.send_method.Goals as goal

pub returns-then-not-is_empty : goal.returns-then-not-is_empty
returns-then-not-is_empty g c =
    unmade Misfit (inr (inl (some_there c.args.header.now c.is_empty.result c.is_empty.ensures c.if-not-is_empty.true))) refl refl

pub returns-then-not-is_empty-2 : goal.returns-then-not-is_empty-2
returns-then-not-is_empty-2 g c =
    unmade Misfit (inr (inr (some_there c.args.body.now c.is_empty-2.result c.is_empty-2.ensures c.if-not-is_empty-2.true))) refl refl

pub returns : goal.returns
returns g c =
    sent (letter_alone (method_view c.args.method))
    (record {
      method_is = refl;
      content_is = (
        sym c.if-has_content.ensures,
        none_there c.args.header.now c.is_empty.result c.is_empty.ensures c.if-not-is_empty.false,
        none_there c.args.body.now c.is_empty-2.result c.is_empty-2.ensures c.if-not-is_empty-2.false,
      );
      body_is = sym (none_there c.args.body.now c.is_empty-2.result c.is_empty-2.ensures c.if-not-is_empty-2.false);
    })
    c.send_alone.ensures
