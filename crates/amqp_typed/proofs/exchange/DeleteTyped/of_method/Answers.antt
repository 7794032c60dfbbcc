use Rattle.std.proofs.Common.{refl, arith}
use Rattle.amqp_typed.proofs.Places.{kinds_3, kinds_in, made_3}
use Rattle.amqp_method.specs.declared.kinds.Kind.TheVariants.{ExchangeDelete}
use Rattle.amqp_typed.proofs.exchange.DeleteTyped.of_method.Goals as goal

pub own_args-requires : goal.own_args-requires
own_args-requires c = (omega arith, (c.requires, refl))

pub short_str-requires : goal.short_str-requires
short_str-requires c = (kinds_3 (kinds_in ExchangeDelete c.own_args.result _ c.own_args.ensures.fit c.three-taken.ensures)).0

pub bit-requires : goal.bit-requires
bit-requires c = (kinds_3 (kinds_in ExchangeDelete c.own_args.result _ c.own_args.ensures.fit c.three-taken.ensures)).1

pub bit-requires-2 : goal.bit-requires-2
bit-requires-2 c = (kinds_3 (kinds_in ExchangeDelete c.own_args.result _ c.own_args.ensures.fit c.three-taken.ensures)).2

pub returns : goal.returns
returns c =
    made_3 _ ExchangeDelete c.own_args.result c.own_args.ensures.args c.three-taken.ensures
    c.short_str.ensures c.bit.ensures c.bit-2.ensures
