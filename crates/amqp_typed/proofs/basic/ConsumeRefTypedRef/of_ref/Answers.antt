use Rattle.std.proofs.Common.{refl}
use Rattle.amqp_method.specs.MethodView.{method_view}
use Rattle.amqp_method.specs.declared.kinds.Kind.TheVariants.{BasicConsume}
use Rattle.amqp_typed.proofs.Places.{at_place, call_7}
use Rattle.amqp_typed.proofs.basic.ConsumeRefTypedRef.of_ref.Goals as goal

pub short_str_at-requires : goal.short_str_at-requires
short_str_at-requires c = at_place (method_view c.args.method.now) BasicConsume 0 c.requires refl

pub short_str_at-requires-2 : goal.short_str_at-requires-2
short_str_at-requires-2 c = at_place (method_view c.args.method.now) BasicConsume 1 c.requires refl

pub bit_at-requires : goal.bit_at-requires
bit_at-requires c = at_place (method_view c.args.method.now) BasicConsume 2 c.requires refl

pub bit_at-requires-2 : goal.bit_at-requires-2
bit_at-requires-2 c = at_place (method_view c.args.method.now) BasicConsume 3 c.requires refl

pub bit_at-requires-3 : goal.bit_at-requires-3
bit_at-requires-3 c = at_place (method_view c.args.method.now) BasicConsume 4 c.requires refl

pub bit_at-requires-4 : goal.bit_at-requires-4
bit_at-requires-4 c = at_place (method_view c.args.method.now) BasicConsume 5 c.requires refl

pub table_at-requires : goal.table_at-requires
table_at-requires c = at_place (method_view c.args.method.now) BasicConsume 6 c.requires refl

pub returns : goal.returns
returns c =
    call_7 _ _ c.requires c.args.method.now.fit refl
    c.short_str_at.ensures c.short_str_at-2.ensures c.bit_at.ensures c.bit_at-2.ensures c.bit_at-3.ensures c.bit_at-4.ensures c.table_at.ensures
