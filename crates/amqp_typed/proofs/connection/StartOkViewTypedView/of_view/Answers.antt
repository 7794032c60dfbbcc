use Rattle.std.proofs.Common.{refl}
use Rattle.amqp_method.specs.MethodRefView.{lent_call}
use Rattle.amqp_method.specs.declared.kinds.Kind.TheVariants.{ConnectionStartOk}
use Rattle.amqp_typed.proofs.Places.{at_place, call_4}
use Rattle.amqp_typed.proofs.connection.StartOkViewTypedView.of_view.Goals as goal

pub table_in-requires : goal.table_in-requires
table_in-requires c = at_place (lent_call c.args.method) ConnectionStartOk 0 c.requires.1 refl

pub short_str_in-requires : goal.short_str_in-requires
short_str_in-requires c = at_place (lent_call c.args.method) ConnectionStartOk 1 c.requires.1 refl

pub long_str_in-requires : goal.long_str_in-requires
long_str_in-requires c = at_place (lent_call c.args.method) ConnectionStartOk 2 c.requires.1 refl

pub short_str_in-requires-2 : goal.short_str_in-requires-2
short_str_in-requires-2 c = at_place (lent_call c.args.method) ConnectionStartOk 3 c.requires.1 refl

pub returns : goal.returns
returns c =
    call_4 _ _ c.requires.1 c.requires.0 refl
    c.table_in.ensures c.short_str_in.ensures c.long_str_in.ensures c.short_str_in-2.ensures
