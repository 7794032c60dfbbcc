use Rattle.std.proofs.Common.{refl, arith}
use Rattle.amqp_typed.proofs.Places.{kinds_4, kinds_in, made_4}
use Rattle.amqp_method.specs.declared.kinds.Kind.TheVariants.{BasicReturn}
use Rattle.amqp_typed.proofs.basic.ReturnTyped.of_method.Goals as goal

pub own_args-requires : goal.own_args-requires
own_args-requires c = (omega arith, (c.requires, refl))

pub short-requires : goal.short-requires
short-requires c = (kinds_4 (kinds_in BasicReturn c.own_args.result _ c.own_args.ensures.fit c.four-taken.ensures)).0

pub short_str-requires : goal.short_str-requires
short_str-requires c = (kinds_4 (kinds_in BasicReturn c.own_args.result _ c.own_args.ensures.fit c.four-taken.ensures)).1

pub short_str-requires-2 : goal.short_str-requires-2
short_str-requires-2 c = (kinds_4 (kinds_in BasicReturn c.own_args.result _ c.own_args.ensures.fit c.four-taken.ensures)).2

pub short_str-requires-3 : goal.short_str-requires-3
short_str-requires-3 c = (kinds_4 (kinds_in BasicReturn c.own_args.result _ c.own_args.ensures.fit c.four-taken.ensures)).3

pub returns : goal.returns
returns c =
    made_4 _ BasicReturn c.own_args.result c.own_args.ensures.args c.four-taken.ensures
    c.short.ensures c.short_str.ensures c.short_str-2.ensures c.short_str-3.ensures
