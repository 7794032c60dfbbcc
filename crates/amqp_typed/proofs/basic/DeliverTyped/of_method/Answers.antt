use Rattle.std.proofs.Common.{refl, arith}
use Rattle.amqp_typed.proofs.Places.{kinds_5, kinds_in, made_5}
use Rattle.amqp_method.specs.declared.kinds.Kind.TheVariants.{BasicDeliver}
use Rattle.amqp_typed.proofs.basic.DeliverTyped.of_method.Goals as goal

pub own_args-requires : goal.own_args-requires
own_args-requires c = (omega arith, (c.requires, refl))

pub short_str-requires : goal.short_str-requires
short_str-requires c = (kinds_5 (kinds_in BasicDeliver c.own_args.result _ c.own_args.ensures.fit c.five-taken.ensures)).0

pub long_long-requires : goal.long_long-requires
long_long-requires c = (kinds_5 (kinds_in BasicDeliver c.own_args.result _ c.own_args.ensures.fit c.five-taken.ensures)).1

pub bit-requires : goal.bit-requires
bit-requires c = (kinds_5 (kinds_in BasicDeliver c.own_args.result _ c.own_args.ensures.fit c.five-taken.ensures)).2

pub short_str-requires-2 : goal.short_str-requires-2
short_str-requires-2 c = (kinds_5 (kinds_in BasicDeliver c.own_args.result _ c.own_args.ensures.fit c.five-taken.ensures)).3

pub short_str-requires-3 : goal.short_str-requires-3
short_str-requires-3 c = (kinds_5 (kinds_in BasicDeliver c.own_args.result _ c.own_args.ensures.fit c.five-taken.ensures)).4

pub returns : goal.returns
returns c =
    made_5 _ BasicDeliver c.own_args.result c.own_args.ensures.args c.five-taken.ensures
    c.short_str.ensures c.long_long.ensures c.bit.ensures c.short_str-2.ensures c.short_str-3.ensures
