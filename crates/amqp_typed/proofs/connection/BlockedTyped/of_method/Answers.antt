use Rattle.std.proofs.Common.{refl, arith}
use Rattle.amqp_typed.proofs.Places.{kind_1, kinds_in, made_1}
use Rattle.amqp_method.specs.declared.kinds.Kind.TheVariants.{ConnectionBlocked}
use Rattle.amqp_typed.proofs.connection.BlockedTyped.of_method.Goals as goal

pub own_args-requires : goal.own_args-requires
own_args-requires c = (omega arith, (c.requires, refl))

pub short_str-requires : goal.short_str-requires
short_str-requires c = kind_1 (kinds_in ConnectionBlocked c.own_args.result _ c.own_args.ensures.fit c.one-taken.ensures)

pub returns : goal.returns
returns c =
    made_1 _ ConnectionBlocked c.own_args.result c.own_args.ensures.args c.one-taken.ensures
    c.short_str.ensures
