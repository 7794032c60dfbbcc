use Rattle.amqp_method.specs.declared.kinds.Kind.TheVariants.{BasicPublish, BasicDeliver, BasicAck}
use Rattle.amqp_method.proofs.CommonKinds.{method_read, read_there}
use Rattle.amqp_method.proofs.checker.common_kind.Goals as goal

pub returns-in_ok-are_of_publish-in-40 : goal.returns-in_ok-are_of_publish-in-40
returns-in_ok-are_of_publish-in-40 c =
    method_read c.args.payload.now c.in_ok-class.after.now c.in_ok-id.after.now c.in_ok-class.class c.in_ok-id.id BasicPublish
    (read_there (λ x. (x.0, x.1.now)) c.read_short.result _ _ c.read_short.ensures.read c.in_ok-class.ensures.value)
    (read_there (λ x. (x.0, x.1.now)) c.read_short-2.result _ _ c.read_short-2.ensures.read c.in_ok-id.ensures.value)
    c.if-class-ne60.false c.in-40.is c.in_ok-are_of_publish-in-40.ensures

pub returns-in_ok-are_of_deliver-in-60 : goal.returns-in_ok-are_of_deliver-in-60
returns-in_ok-are_of_deliver-in-60 c =
    method_read c.args.payload.now c.in_ok-class.after.now c.in_ok-id.after.now c.in_ok-class.class c.in_ok-id.id BasicDeliver
    (read_there (λ x. (x.0, x.1.now)) c.read_short.result _ _ c.read_short.ensures.read c.in_ok-class.ensures.value)
    (read_there (λ x. (x.0, x.1.now)) c.read_short-2.result _ _ c.read_short-2.ensures.read c.in_ok-id.ensures.value)
    c.if-class-ne60.false c.in-60.is c.in_ok-are_of_deliver-in-60.ensures

pub returns-in_ok-are_of_ack-in-80 : goal.returns-in_ok-are_of_ack-in-80
returns-in_ok-are_of_ack-in-80 c =
    method_read c.args.payload.now c.in_ok-class.after.now c.in_ok-id.after.now c.in_ok-class.class c.in_ok-id.id BasicAck
    (read_there (λ x. (x.0, x.1.now)) c.read_short.result _ _ c.read_short.ensures.read c.in_ok-class.ensures.value)
    (read_there (λ x. (x.0, x.1.now)) c.read_short-2.result _ _ c.read_short-2.ensures.read c.in_ok-id.ensures.value)
    c.if-class-ne60.false c.in-80.is c.in_ok-are_of_ack-in-80.ensures
