use Rattle.std.proofs.Common.{refl, arith}
use Rattle.amqp_typed.proofs.Places.{kind_1, kinds_in, made_1}
use Rattle.amqp_method.specs.declared.kinds.Kind.TheVariants.{ConnectionSecureOk}
use Rattle.amqp_typed.proofs.connection.SecureOkTyped.of_method.Goals as goal

pub own_args-requires : goal.own_args-requires
own_args-requires c = (omega arith, (c.requires, refl))

pub long_str-requires : goal.long_str-requires
long_str-requires c = kind_1 (kinds_in ConnectionSecureOk c.own_args.result _ c.own_args.ensures.fit c.one-taken.ensures)

pub returns : goal.returns
returns c =
    made_1 _ ConnectionSecureOk c.own_args.result c.own_args.ensures.args c.one-taken.ensures
    c.long_str.ensures
