use Rattle.std.proofs.Common.{refl}
use Rattle.amqp_method.specs.MethodRefView.{lent_call}
use Rattle.amqp_method.specs.declared.kinds.Kind.TheVariants.{ConnectionClose}
use Rattle.amqp_typed.proofs.Places.{at_place, call_4}
use Rattle.amqp_typed.proofs.connection.CloseViewTypedView.of_view.Goals as goal

pub short_in-requires : goal.short_in-requires
short_in-requires c = at_place (lent_call c.args.method) ConnectionClose 0 c.requires.1 refl

pub short_str_in-requires : goal.short_str_in-requires
short_str_in-requires c = at_place (lent_call c.args.method) ConnectionClose 1 c.requires.1 refl

pub short_in-requires-2 : goal.short_in-requires-2
short_in-requires-2 c = at_place (lent_call c.args.method) ConnectionClose 2 c.requires.1 refl

pub short_in-requires-3 : goal.short_in-requires-3
short_in-requires-3 c = at_place (lent_call c.args.method) ConnectionClose 3 c.requires.1 refl

pub returns : goal.returns
returns c =
    call_4 _ _ c.requires.1 c.requires.0 refl
    c.short_in.ensures c.short_str_in.ensures c.short_in-2.ensures c.short_in-3.ensures
