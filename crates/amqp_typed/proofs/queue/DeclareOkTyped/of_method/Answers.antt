use Rattle.std.proofs.Common.{refl, arith}
use Rattle.amqp_typed.proofs.Places.{kinds_3, kinds_in, made_3}
use Rattle.amqp_method.specs.declared.kinds.Kind.TheVariants.{QueueDeclareOk}
use Rattle.amqp_typed.proofs.queue.DeclareOkTyped.of_method.Goals as goal

pub own_args-requires : goal.own_args-requires
own_args-requires c = (omega arith, (c.requires, refl))

pub short_str-requires : goal.short_str-requires
short_str-requires c = (kinds_3 (kinds_in QueueDeclareOk c.own_args.result _ c.own_args.ensures.fit c.three-taken.ensures)).0

pub long-requires : goal.long-requires
long-requires c = (kinds_3 (kinds_in QueueDeclareOk c.own_args.result _ c.own_args.ensures.fit c.three-taken.ensures)).1

pub long-requires-2 : goal.long-requires-2
long-requires-2 c = (kinds_3 (kinds_in QueueDeclareOk c.own_args.result _ c.own_args.ensures.fit c.three-taken.ensures)).2

pub returns : goal.returns
returns c =
    made_3 _ QueueDeclareOk c.own_args.result c.own_args.ensures.args c.three-taken.ensures
    c.short_str.ensures c.long.ensures c.long-2.ensures
