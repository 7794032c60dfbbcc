use Rattle.std.proofs.Common.{refl}
use Rattle.amqp_method.specs.MethodView.{method_view}
use Rattle.amqp_method.specs.declared.kinds.Kind.TheVariants.{BasicQos}
use Rattle.amqp_typed.proofs.Places.{at_place, call_3}
use Rattle.amqp_typed.proofs.basic.QosTypedRef.of_ref.Goals as goal

pub long_at-requires : goal.long_at-requires
long_at-requires c = at_place (method_view c.args.method.now) BasicQos 0 c.requires refl

pub short_at-requires : goal.short_at-requires
short_at-requires c = at_place (method_view c.args.method.now) BasicQos 1 c.requires refl

pub bit_at-requires : goal.bit_at-requires
bit_at-requires c = at_place (method_view c.args.method.now) BasicQos 2 c.requires refl

pub returns : goal.returns
returns c =
    call_3 _ _ c.requires c.args.method.now.fit refl
    c.long_at.ensures c.short_at.ensures c.bit_at.ensures
