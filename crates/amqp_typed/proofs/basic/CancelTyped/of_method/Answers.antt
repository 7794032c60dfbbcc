use Rattle.std.proofs.Common.{refl, arith}
use Rattle.amqp_typed.proofs.Places.{kinds_2, kinds_in, made_2}
use Rattle.amqp_method.specs.declared.kinds.Kind.TheVariants.{BasicCancel}
use Rattle.amqp_typed.proofs.basic.CancelTyped.of_method.Goals as goal

pub own_args-requires : goal.own_args-requires
own_args-requires c = (omega arith, (c.requires, refl))

pub short_str-requires : goal.short_str-requires
short_str-requires c = (kinds_2 (kinds_in BasicCancel c.own_args.result _ c.own_args.ensures.fit c.two-taken.ensures)).0

pub bit-requires : goal.bit-requires
bit-requires c = (kinds_2 (kinds_in BasicCancel c.own_args.result _ c.own_args.ensures.fit c.two-taken.ensures)).1

pub returns : goal.returns
returns c =
    made_2 _ BasicCancel c.own_args.result c.own_args.ensures.args c.two-taken.ensures
    c.short_str.ensures c.bit.ensures
