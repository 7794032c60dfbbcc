use Rattle.std.proofs.Common.{ap, ◌∙◌}
use Rattle.amqp_method.specs.Kinds.{fields_of}
use Rattle.amqp_method.proofs.method_ref.MethodRef.own_args.Goals as goal

pub own_ack-requires : goal.own_ack-requires
own_ack-requires c = c.lent_args.ensures.fields ∙ ap fields_of c.in-BasicAck.is
