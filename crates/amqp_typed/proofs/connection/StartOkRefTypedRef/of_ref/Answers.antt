use Rattle.std.proofs.Common.{refl}
use Rattle.amqp_method.specs.MethodView.{method_view}
use Rattle.amqp_method.specs.declared.kinds.Kind.TheVariants.{ConnectionStartOk}
use Rattle.amqp_typed.proofs.Places.{at_place, call_4}
use Rattle.amqp_typed.proofs.connection.StartOkRefTypedRef.of_ref.Goals as goal

pub table_at-requires : goal.table_at-requires
table_at-requires c = at_place (method_view c.args.method.now) ConnectionStartOk 0 c.requires refl

pub short_str_at-requires : goal.short_str_at-requires
short_str_at-requires c = at_place (method_view c.args.method.now) ConnectionStartOk 1 c.requires refl

pub long_str_at-requires : goal.long_str_at-requires
long_str_at-requires c = at_place (method_view c.args.method.now) ConnectionStartOk 2 c.requires refl

pub short_str_at-requires-2 : goal.short_str_at-requires-2
short_str_at-requires-2 c = at_place (method_view c.args.method.now) ConnectionStartOk 3 c.requires refl

pub returns : goal.returns
returns c =
    call_4 _ _ c.requires c.args.method.now.fit refl
    c.table_at.ensures c.short_str_at.ensures c.long_str_at.ensures c.short_str_at-2.ensures
