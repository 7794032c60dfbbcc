use Rattle.std.proofs.Common.{refl}
use Rattle.amqp_method.specs.MethodRefView.{lent_call}
use Rattle.amqp_method.specs.declared.kinds.Kind.TheVariants.{BasicGetOk}
use Rattle.amqp_typed.proofs.Places.{at_place, call_5}
use Rattle.amqp_typed.proofs.basic.GetOkViewTypedView.of_view.Goals as goal

pub long_long_in-requires : goal.long_long_in-requires
long_long_in-requires c = at_place (lent_call c.args.method) BasicGetOk 0 c.requires.1 refl

pub bit_in-requires : goal.bit_in-requires
bit_in-requires c = at_place (lent_call c.args.method) BasicGetOk 1 c.requires.1 refl

pub short_str_in-requires : goal.short_str_in-requires
short_str_in-requires c = at_place (lent_call c.args.method) BasicGetOk 2 c.requires.1 refl

pub short_str_in-requires-2 : goal.short_str_in-requires-2
short_str_in-requires-2 c = at_place (lent_call c.args.method) BasicGetOk 3 c.requires.1 refl

pub long_in-requires : goal.long_in-requires
long_in-requires c = at_place (lent_call c.args.method) BasicGetOk 4 c.requires.1 refl

pub returns : goal.returns
returns c =
    call_5 _ _ c.requires.1 c.requires.0 refl
    c.long_long_in.ensures c.bit_in.ensures c.short_str_in.ensures c.short_str_in-2.ensures c.long_in.ensures
