use Rattle.std.proofs.Common.{refl}
use Rattle.amqp_method.specs.MethodRefView.{lent_call}
use Rattle.amqp_method.specs.declared.kinds.Kind.TheVariants.{BasicDeliver}
use Rattle.amqp_typed.proofs.Places.{at_place, call_5}
use Rattle.amqp_typed.proofs.basic.DeliverViewTypedView.of_view.Goals as goal

pub short_str_in-requires : goal.short_str_in-requires
short_str_in-requires c = at_place (lent_call c.args.method) BasicDeliver 0 c.requires.1 refl

pub long_long_in-requires : goal.long_long_in-requires
long_long_in-requires c = at_place (lent_call c.args.method) BasicDeliver 1 c.requires.1 refl

pub bit_in-requires : goal.bit_in-requires
bit_in-requires c = at_place (lent_call c.args.method) BasicDeliver 2 c.requires.1 refl

pub short_str_in-requires-2 : goal.short_str_in-requires-2
short_str_in-requires-2 c = at_place (lent_call c.args.method) BasicDeliver 3 c.requires.1 refl

pub short_str_in-requires-3 : goal.short_str_in-requires-3
short_str_in-requires-3 c = at_place (lent_call c.args.method) BasicDeliver 4 c.requires.1 refl

pub returns : goal.returns
returns c =
    call_5 _ _ c.requires.1 c.requires.0 refl
    c.short_str_in.ensures c.long_long_in.ensures c.bit_in.ensures c.short_str_in-2.ensures c.short_str_in-3.ensures
