use Rattle.std.proofs.Common.{refl}
use Rattle.amqp_method.specs.MethodView.{method_view}
use Rattle.amqp_method.specs.declared.kinds.Kind.TheVariants.{BasicNack}
use Rattle.amqp_typed.proofs.Places.{at_place, call_3}
use Rattle.amqp_typed.proofs.basic.NackTypedRef.of_ref.Goals as goal

pub long_long_at-requires : goal.long_long_at-requires
long_long_at-requires c = at_place (method_view c.args.method.now) BasicNack 0 c.requires refl

pub bit_at-requires : goal.bit_at-requires
bit_at-requires c = at_place (method_view c.args.method.now) BasicNack 1 c.requires refl

pub bit_at-requires-2 : goal.bit_at-requires-2
bit_at-requires-2 c = at_place (method_view c.args.method.now) BasicNack 2 c.requires refl

pub returns : goal.returns
returns c =
    call_3 _ _ c.requires c.args.method.now.fit refl
    c.long_long_at.ensures c.bit_at.ensures c.bit_at-2.ensures
