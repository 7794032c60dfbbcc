use Rattle.std.proofs.Common.{refl}
use Rattle.amqp_method.specs.MethodRefView.{lent_call}
use Rattle.amqp_method.specs.declared.kinds.Kind.TheVariants.{BasicRecover}
use Rattle.amqp_typed.proofs.Places.{at_place, call_1}
use Rattle.amqp_typed.proofs.basic.RecoverTypedView.of_view.Goals as goal

pub bit_in-requires : goal.bit_in-requires
bit_in-requires c = at_place (lent_call c.args.method) BasicRecover 0 c.requires.1 refl

pub returns : goal.returns
returns c =
    call_1 _ _ c.requires.1 c.requires.0 refl
    c.bit_in.ensures
