use Rattle.std.proofs.Common.{refl, arith}
use Rattle.amqp_typed.proofs.Places.{kinds_5, kinds_in, made_5}
use Rattle.amqp_method.specs.declared.kinds.Kind.TheVariants.{BasicGetOk}
use Rattle.amqp_typed.proofs.basic.GetOkTyped.of_method.Goals as goal

pub own_args-requires : goal.own_args-requires
own_args-requires c = (omega arith, (c.requires, refl))

pub long_long-requires : goal.long_long-requires
long_long-requires c = (kinds_5 (kinds_in BasicGetOk c.own_args.result _ c.own_args.ensures.fit c.five-taken.ensures)).0

pub bit-requires : goal.bit-requires
bit-requires c = (kinds_5 (kinds_in BasicGetOk c.own_args.result _ c.own_args.ensures.fit c.five-taken.ensures)).1

pub short_str-requires : goal.short_str-requires
short_str-requires c = (kinds_5 (kinds_in BasicGetOk c.own_args.result _ c.own_args.ensures.fit c.five-taken.ensures)).2

pub short_str-requires-2 : goal.short_str-requires-2
short_str-requires-2 c = (kinds_5 (kinds_in BasicGetOk c.own_args.result _ c.own_args.ensures.fit c.five-taken.ensures)).3

pub long-requires : goal.long-requires
long-requires c = (kinds_5 (kinds_in BasicGetOk c.own_args.result _ c.own_args.ensures.fit c.five-taken.ensures)).4

pub returns : goal.returns
returns c =
    made_5 _ BasicGetOk c.own_args.result c.own_args.ensures.args c.five-taken.ensures
    c.long_long.ensures c.bit.ensures c.short_str.ensures c.short_str-2.ensures c.long.ensures
