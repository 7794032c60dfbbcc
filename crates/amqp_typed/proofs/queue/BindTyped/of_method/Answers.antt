use Rattle.std.proofs.Common.{refl, arith}
use Rattle.amqp_typed.proofs.Places.{kinds_5, kinds_in, made_5}
use Rattle.amqp_method.specs.declared.kinds.Kind.TheVariants.{QueueBind}
use Rattle.amqp_typed.proofs.queue.BindTyped.of_method.Goals as goal

pub own_args-requires : goal.own_args-requires
own_args-requires c = (omega arith, (c.requires, refl))

pub short_str-requires : goal.short_str-requires
short_str-requires c = (kinds_5 (kinds_in QueueBind c.own_args.result _ c.own_args.ensures.fit c.five-taken.ensures)).0

pub short_str-requires-2 : goal.short_str-requires-2
short_str-requires-2 c = (kinds_5 (kinds_in QueueBind c.own_args.result _ c.own_args.ensures.fit c.five-taken.ensures)).1

pub short_str-requires-3 : goal.short_str-requires-3
short_str-requires-3 c = (kinds_5 (kinds_in QueueBind c.own_args.result _ c.own_args.ensures.fit c.five-taken.ensures)).2

pub bit-requires : goal.bit-requires
bit-requires c = (kinds_5 (kinds_in QueueBind c.own_args.result _ c.own_args.ensures.fit c.five-taken.ensures)).3

pub table-requires : goal.table-requires
table-requires c = (kinds_5 (kinds_in QueueBind c.own_args.result _ c.own_args.ensures.fit c.five-taken.ensures)).4

pub returns : goal.returns
returns c =
    made_5 _ QueueBind c.own_args.result c.own_args.ensures.args c.five-taken.ensures
    c.short_str.ensures c.short_str-2.ensures c.short_str-3.ensures c.bit.ensures c.table.ensures
