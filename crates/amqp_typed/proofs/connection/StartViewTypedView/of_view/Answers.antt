use Rattle.std.proofs.Common.{refl}
use Rattle.amqp_method.specs.MethodRefView.{lent_call}
use Rattle.amqp_method.specs.declared.kinds.Kind.TheVariants.{ConnectionStart}
use Rattle.amqp_typed.proofs.Places.{at_place, call_5}
use Rattle.amqp_typed.proofs.connection.StartViewTypedView.of_view.Goals as goal

pub octet_in-requires : goal.octet_in-requires
octet_in-requires c = at_place (lent_call c.args.method) ConnectionStart 0 c.requires.1 refl

pub octet_in-requires-2 : goal.octet_in-requires-2
octet_in-requires-2 c = at_place (lent_call c.args.method) ConnectionStart 1 c.requires.1 refl

pub table_in-requires : goal.table_in-requires
table_in-requires c = at_place (lent_call c.args.method) ConnectionStart 2 c.requires.1 refl

pub long_str_in-requires : goal.long_str_in-requires
long_str_in-requires c = at_place (lent_call c.args.method) ConnectionStart 3 c.requires.1 refl

pub long_str_in-requires-2 : goal.long_str_in-requires-2
long_str_in-requires-2 c = at_place (lent_call c.args.method) ConnectionStart 4 c.requires.1 refl

pub returns : goal.returns
returns c =
    call_5 _ _ c.requires.1 c.requires.0 refl
    c.octet_in.ensures c.octet_in-2.ensures c.table_in.ensures c.long_str_in.ensures c.long_str_in-2.ensures
