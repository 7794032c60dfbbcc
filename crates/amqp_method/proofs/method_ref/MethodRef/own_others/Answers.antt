use Rattle.std.proofs.Common.{ap, ◌∙◌}
use Rattle.amqp_method.specs.Kinds.{fields_of}
use Rattle.amqp_method.proofs.method_ref.MethodRef.own_others.Goals as goal

pub own_publish-requires : goal.own_publish-requires
own_publish-requires c = c.lent_args-lent.ensures.fields ∙ ap fields_of c.in-BasicPublish.is

pub own_deliver-requires : goal.own_deliver-requires
own_deliver-requires c = c.lent_args-lent.ensures.fields ∙ ap fields_of c.in-BasicDeliver.is
