use Rattle.std.proofs.Common.{refl, arith}
use Rattle.amqp_typed.proofs.Places.{kinds_5, kinds_in, made_5}
use Rattle.amqp_method.specs.declared.kinds.Kind.TheVariants.{ConnectionStart}
use Rattle.amqp_typed.proofs.connection.StartTyped.of_method.Goals as goal

pub own_args-requires : goal.own_args-requires
own_args-requires c = (omega arith, (c.requires, refl))

pub octet-requires : goal.octet-requires
octet-requires c = (kinds_5 (kinds_in ConnectionStart c.own_args.result _ c.own_args.ensures.fit c.five-taken.ensures)).0

pub octet-requires-2 : goal.octet-requires-2
octet-requires-2 c = (kinds_5 (kinds_in ConnectionStart c.own_args.result _ c.own_args.ensures.fit c.five-taken.ensures)).1

pub table-requires : goal.table-requires
table-requires c = (kinds_5 (kinds_in ConnectionStart c.own_args.result _ c.own_args.ensures.fit c.five-taken.ensures)).2

pub long_str-requires : goal.long_str-requires
long_str-requires c = (kinds_5 (kinds_in ConnectionStart c.own_args.result _ c.own_args.ensures.fit c.five-taken.ensures)).3

pub long_str-requires-2 : goal.long_str-requires-2
long_str-requires-2 c = (kinds_5 (kinds_in ConnectionStart c.own_args.result _ c.own_args.ensures.fit c.five-taken.ensures)).4

pub returns : goal.returns
returns c =
    made_5 _ ConnectionStart c.own_args.result c.own_args.ensures.args c.five-taken.ensures
    c.octet.ensures c.octet-2.ensures c.table.ensures c.long_str.ensures c.long_str-2.ensures
