use Rattle.std.proofs.Common.{refl}
use Rattle.amqp_method.specs.MethodView.{method_view}
use Rattle.amqp_method.specs.declared.kinds.Kind.TheVariants.{BasicCancelOk}
use Rattle.amqp_typed.proofs.Places.{at_place, call_1}
use Rattle.amqp_typed.proofs.basic.CancelOkRefTypedRef.of_ref.Goals as goal

pub short_str_at-requires : goal.short_str_at-requires
short_str_at-requires c = at_place (method_view c.args.method.now) BasicCancelOk 0 c.requires refl

pub returns : goal.returns
returns c =
    call_1 _ _ c.requires c.args.method.now.fit refl
    c.short_str_at.ensures
