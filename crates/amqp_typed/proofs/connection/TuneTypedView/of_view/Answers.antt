use Rattle.std.proofs.Common.{refl}
use Rattle.amqp_method.specs.MethodRefView.{lent_call}
use Rattle.amqp_method.specs.declared.kinds.Kind.TheVariants.{ConnectionTune}
use Rattle.amqp_typed.proofs.Places.{at_place, call_3}
use Rattle.amqp_typed.proofs.connection.TuneTypedView.of_view.Goals as goal

pub short_in-requires : goal.short_in-requires
short_in-requires c = at_place (lent_call c.args.method) ConnectionTune 0 c.requires.1 refl

pub long_in-requires : goal.long_in-requires
long_in-requires c = at_place (lent_call c.args.method) ConnectionTune 1 c.requires.1 refl

pub short_in-requires-2 : goal.short_in-requires-2
short_in-requires-2 c = at_place (lent_call c.args.method) ConnectionTune 2 c.requires.1 refl

pub returns : goal.returns
returns c =
    call_3 _ _ c.requires.1 c.requires.0 refl
    c.short_in.ensures c.long_in.ensures c.short_in-2.ensures
