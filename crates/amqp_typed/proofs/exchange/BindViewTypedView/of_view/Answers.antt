use Rattle.std.proofs.Common.{refl}
use Rattle.amqp_method.specs.MethodRefView.{lent_call}
use Rattle.amqp_method.specs.declared.kinds.Kind.TheVariants.{ExchangeBind}
use Rattle.amqp_typed.proofs.Places.{at_place, call_5}
use Rattle.amqp_typed.proofs.exchange.BindViewTypedView.of_view.Goals as goal

pub short_str_in-requires : goal.short_str_in-requires
short_str_in-requires c = at_place (lent_call c.args.method) ExchangeBind 0 c.requires.1 refl

pub short_str_in-requires-2 : goal.short_str_in-requires-2
short_str_in-requires-2 c = at_place (lent_call c.args.method) ExchangeBind 1 c.requires.1 refl

pub short_str_in-requires-3 : goal.short_str_in-requires-3
short_str_in-requires-3 c = at_place (lent_call c.args.method) ExchangeBind 2 c.requires.1 refl

pub bit_in-requires : goal.bit_in-requires
bit_in-requires c = at_place (lent_call c.args.method) ExchangeBind 3 c.requires.1 refl

pub table_in-requires : goal.table_in-requires
table_in-requires c = at_place (lent_call c.args.method) ExchangeBind 4 c.requires.1 refl

pub returns : goal.returns
returns c =
    call_5 _ _ c.requires.1 c.requires.0 refl
    c.short_str_in.ensures c.short_str_in-2.ensures c.short_str_in-3.ensures c.bit_in.ensures c.table_in.ensures
