use Rattle.std.proofs.Common.{refl}
use Rattle.amqp_method.specs.MethodView.{method_view}
use Rattle.amqp_method.specs.declared.kinds.Kind.TheVariants.{ConnectionStart}
use Rattle.amqp_typed.proofs.Places.{at_place, call_5}
use Rattle.amqp_typed.proofs.connection.StartRefTypedRef.of_ref.Goals as goal

pub octet_at-requires : goal.octet_at-requires
octet_at-requires c = at_place (method_view c.args.method.now) ConnectionStart 0 c.requires refl

pub octet_at-requires-2 : goal.octet_at-requires-2
octet_at-requires-2 c = at_place (method_view c.args.method.now) ConnectionStart 1 c.requires refl

pub table_at-requires : goal.table_at-requires
table_at-requires c = at_place (method_view c.args.method.now) ConnectionStart 2 c.requires refl

pub long_str_at-requires : goal.long_str_at-requires
long_str_at-requires c = at_place (method_view c.args.method.now) ConnectionStart 3 c.requires refl

pub long_str_at-requires-2 : goal.long_str_at-requires-2
long_str_at-requires-2 c = at_place (method_view c.args.method.now) ConnectionStart 4 c.requires refl

pub returns : goal.returns
returns c =
    call_5 _ _ c.requires c.args.method.now.fit refl
    c.octet_at.ensures c.octet_at-2.ensures c.table_at.ensures c.long_str_at.ensures c.long_str_at-2.ensures
