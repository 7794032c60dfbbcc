use Rattle.std.proofs.Common.{refl}
use Rattle.amqp_method.specs.MethodRefView.{lent_call}
use Rattle.amqp_method.specs.declared.kinds.Kind.TheVariants.{BasicReject}
use Rattle.amqp_typed.proofs.Places.{at_place, call_2}
use Rattle.amqp_typed.proofs.basic.RejectTypedView.of_view.Goals as goal

pub long_long_in-requires : goal.long_long_in-requires
long_long_in-requires c = at_place (lent_call c.args.method) BasicReject 0 c.requires.1 refl

pub bit_in-requires : goal.bit_in-requires
bit_in-requires c = at_place (lent_call c.args.method) BasicReject 1 c.requires.1 refl

pub returns : goal.returns
returns c =
    call_2 _ _ c.requires.1 c.requires.0 refl
    c.long_long_in.ensures c.bit_in.ensures
