use Rattle.std.proofs.Common.{refl}
use Rattle.amqp_method.specs.MethodView.{method_view}
use Rattle.amqp_method.specs.declared.kinds.Kind.TheVariants.{ConfirmSelect}
use Rattle.amqp_typed.proofs.Places.{at_place, call_1}
use Rattle.amqp_typed.proofs.confirm.SelectTypedRef.of_ref.Goals as goal

pub bit_at-requires : goal.bit_at-requires
bit_at-requires c = at_place (method_view c.args.method.now) ConfirmSelect 0 c.requires refl

pub returns : goal.returns
returns c =
    call_1 _ _ c.requires c.args.method.now.fit refl
    c.bit_at.ensures
