use Rattle.std.proofs.Common.{refl, arith}
use Rattle.amqp_typed.proofs.Places.{kinds_8, kinds_in, made_8}
use Rattle.amqp_method.specs.declared.kinds.Kind.TheVariants.{ExchangeDeclare}
use Rattle.amqp_typed.proofs.exchange.DeclareTyped.of_method.Goals as goal

pub own_args-requires : goal.own_args-requires
own_args-requires c = (omega arith, (c.requires, refl))

pub short_str-requires : goal.short_str-requires
short_str-requires c = (kinds_8 (kinds_in ExchangeDeclare c.own_args.result _ c.own_args.ensures.fit c.eight-taken.ensures)).0

pub short_str-requires-2 : goal.short_str-requires-2
short_str-requires-2 c = (kinds_8 (kinds_in ExchangeDeclare c.own_args.result _ c.own_args.ensures.fit c.eight-taken.ensures)).1

pub bit-requires : goal.bit-requires
bit-requires c = (kinds_8 (kinds_in ExchangeDeclare c.own_args.result _ c.own_args.ensures.fit c.eight-taken.ensures)).2

pub bit-requires-2 : goal.bit-requires-2
bit-requires-2 c = (kinds_8 (kinds_in ExchangeDeclare c.own_args.result _ c.own_args.ensures.fit c.eight-taken.ensures)).3

pub bit-requires-3 : goal.bit-requires-3
bit-requires-3 c = (kinds_8 (kinds_in ExchangeDeclare c.own_args.result _ c.own_args.ensures.fit c.eight-taken.ensures)).4

pub bit-requires-4 : goal.bit-requires-4
bit-requires-4 c = (kinds_8 (kinds_in ExchangeDeclare c.own_args.result _ c.own_args.ensures.fit c.eight-taken.ensures)).5

pub bit-requires-5 : goal.bit-requires-5
bit-requires-5 c = (kinds_8 (kinds_in ExchangeDeclare c.own_args.result _ c.own_args.ensures.fit c.eight-taken.ensures)).6

pub table-requires : goal.table-requires
table-requires c = (kinds_8 (kinds_in ExchangeDeclare c.own_args.result _ c.own_args.ensures.fit c.eight-taken.ensures)).7

pub returns : goal.returns
returns c =
    made_8 _ ExchangeDeclare c.own_args.result c.own_args.ensures.args c.eight-taken.ensures
    c.short_str.ensures c.short_str-2.ensures c.bit.ensures c.bit-2.ensures c.bit-3.ensures c.bit-4.ensures c.bit-5.ensures c.table.ensures
