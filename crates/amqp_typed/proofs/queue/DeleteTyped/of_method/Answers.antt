use Rattle.std.proofs.Common.{refl, arith}
use Rattle.amqp_typed.proofs.Places.{kinds_4, kinds_in, made_4}
use Rattle.amqp_method.specs.declared.kinds.Kind.TheVariants.{QueueDelete}
use Rattle.amqp_typed.proofs.queue.DeleteTyped.of_method.Goals as goal

pub own_args-requires : goal.own_args-requires
own_args-requires c = (omega arith, (c.requires, refl))

pub short_str-requires : goal.short_str-requires
short_str-requires c = (kinds_4 (kinds_in QueueDelete c.own_args.result _ c.own_args.ensures.fit c.four-taken.ensures)).0

pub bit-requires : goal.bit-requires
bit-requires c = (kinds_4 (kinds_in QueueDelete c.own_args.result _ c.own_args.ensures.fit c.four-taken.ensures)).1

pub bit-requires-2 : goal.bit-requires-2
bit-requires-2 c = (kinds_4 (kinds_in QueueDelete c.own_args.result _ c.own_args.ensures.fit c.four-taken.ensures)).2

pub bit-requires-3 : goal.bit-requires-3
bit-requires-3 c = (kinds_4 (kinds_in QueueDelete c.own_args.result _ c.own_args.ensures.fit c.four-taken.ensures)).3

pub returns : goal.returns
returns c =
    made_4 _ QueueDelete c.own_args.result c.own_args.ensures.args c.four-taken.ensures
    c.short_str.ensures c.bit.ensures c.bit-2.ensures c.bit-3.ensures
