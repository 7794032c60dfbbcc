use Rattle.std.proofs.Common.{refl}
use Rattle.amqp_method.specs.MethodRefView.{lent_call}
use Rattle.amqp_method.specs.declared.kinds.Kind.TheVariants.{BasicQos}
use Rattle.amqp_typed.proofs.Places.{at_place, call_3}
use Rattle.amqp_typed.proofs.basic.QosTypedView.of_view.Goals as goal

pub long_in-requires : goal.long_in-requires
long_in-requires c = at_place (lent_call c.args.method) BasicQos 0 c.requires.1 refl

pub short_in-requires : goal.short_in-requires
short_in-requires c = at_place (lent_call c.args.method) BasicQos 1 c.requires.1 refl

pub bit_in-requires : goal.bit_in-requires
bit_in-requires c = at_place (lent_call c.args.method) BasicQos 2 c.requires.1 refl

pub returns : goal.returns
returns c =
    call_3 _ _ c.requires.1 c.requires.0 refl
    c.long_in.ensures c.short_in.ensures c.bit_in.ensures
