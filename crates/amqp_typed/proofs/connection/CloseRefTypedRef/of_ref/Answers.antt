use Rattle.std.proofs.Common.{refl}
use Rattle.amqp_method.specs.MethodView.{method_view}
use Rattle.amqp_method.specs.declared.kinds.Kind.TheVariants.{ConnectionClose}
use Rattle.amqp_typed.proofs.Places.{at_place, call_4}
use Rattle.amqp_typed.proofs.connection.CloseRefTypedRef.of_ref.Goals as goal

pub short_at-requires : goal.short_at-requires
short_at-requires c = at_place (method_view c.args.method.now) ConnectionClose 0 c.requires refl

pub short_str_at-requires : goal.short_str_at-requires
short_str_at-requires c = at_place (method_view c.args.method.now) ConnectionClose 1 c.requires refl

pub short_at-requires-2 : goal.short_at-requires-2
short_at-requires-2 c = at_place (method_view c.args.method.now) ConnectionClose 2 c.requires refl

pub short_at-requires-3 : goal.short_at-requires-3
short_at-requires-3 c = at_place (method_view c.args.method.now) ConnectionClose 3 c.requires refl

pub returns : goal.returns
returns c =
    call_4 _ _ c.requires c.args.method.now.fit refl
    c.short_at.ensures c.short_str_at.ensures c.short_at-2.ensures c.short_at-3.ensures
