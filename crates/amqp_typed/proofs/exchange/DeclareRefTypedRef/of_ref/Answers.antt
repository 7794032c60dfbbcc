use Rattle.std.proofs.Common.{refl}
use Rattle.amqp_method.specs.MethodView.{method_view}
use Rattle.amqp_method.specs.declared.kinds.Kind.TheVariants.{ExchangeDeclare}
use Rattle.amqp_typed.proofs.Places.{at_place, call_8}
use Rattle.amqp_typed.proofs.exchange.DeclareRefTypedRef.of_ref.Goals as goal

pub short_str_at-requires : goal.short_str_at-requires
short_str_at-requires c = at_place (method_view c.args.method.now) ExchangeDeclare 0 c.requires refl

pub short_str_at-requires-2 : goal.short_str_at-requires-2
short_str_at-requires-2 c = at_place (method_view c.args.method.now) ExchangeDeclare 1 c.requires refl

pub bit_at-requires : goal.bit_at-requires
bit_at-requires c = at_place (method_view c.args.method.now) ExchangeDeclare 2 c.requires refl

pub bit_at-requires-2 : goal.bit_at-requires-2
bit_at-requires-2 c = at_place (method_view c.args.method.now) ExchangeDeclare 3 c.requires refl

pub bit_at-requires-3 : goal.bit_at-requires-3
bit_at-requires-3 c = at_place (method_view c.args.method.now) ExchangeDeclare 4 c.requires refl

pub bit_at-requires-4 : goal.bit_at-requires-4
bit_at-requires-4 c = at_place (method_view c.args.method.now) ExchangeDeclare 5 c.requires refl

pub bit_at-requires-5 : goal.bit_at-requires-5
bit_at-requires-5 c = at_place (method_view c.args.method.now) ExchangeDeclare 6 c.requires refl

pub table_at-requires : goal.table_at-requires
table_at-requires c = at_place (method_view c.args.method.now) ExchangeDeclare 7 c.requires refl

pub returns : goal.returns
returns c =
    call_8 _ _ c.requires c.args.method.now.fit refl
    c.short_str_at.ensures c.short_str_at-2.ensures c.bit_at.ensures c.bit_at-2.ensures c.bit_at-3.ensures c.bit_at-4.ensures c.bit_at-5.ensures c.table_at.ensures
