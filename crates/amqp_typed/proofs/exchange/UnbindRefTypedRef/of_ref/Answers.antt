use Rattle.std.proofs.Common.{refl}
use Rattle.amqp_method.specs.MethodView.{method_view}
use Rattle.amqp_method.specs.declared.kinds.Kind.TheVariants.{ExchangeUnbind}
use Rattle.amqp_typed.proofs.Places.{at_place, call_5}
use Rattle.amqp_typed.proofs.exchange.UnbindRefTypedRef.of_ref.Goals as goal

pub short_str_at-requires : goal.short_str_at-requires
short_str_at-requires c = at_place (method_view c.args.method.now) ExchangeUnbind 0 c.requires refl

pub short_str_at-requires-2 : goal.short_str_at-requires-2
short_str_at-requires-2 c = at_place (method_view c.args.method.now) ExchangeUnbind 1 c.requires refl

pub short_str_at-requires-3 : goal.short_str_at-requires-3
short_str_at-requires-3 c = at_place (method_view c.args.method.now) ExchangeUnbind 2 c.requires refl

pub bit_at-requires : goal.bit_at-requires
bit_at-requires c = at_place (method_view c.args.method.now) ExchangeUnbind 3 c.requires refl

pub table_at-requires : goal.table_at-requires
table_at-requires c = at_place (method_view c.args.method.now) ExchangeUnbind 4 c.requires refl

pub returns : goal.returns
returns c =
    call_5 _ _ c.requires c.args.method.now.fit refl
    c.short_str_at.ensures c.short_str_at-2.ensures c.short_str_at-3.ensures c.bit_at.ensures c.table_at.ensures
