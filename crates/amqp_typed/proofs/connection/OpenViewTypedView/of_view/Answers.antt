use Rattle.std.proofs.Common.{refl}
use Rattle.amqp_method.specs.MethodRefView.{lent_call}
use Rattle.amqp_method.specs.declared.kinds.Kind.TheVariants.{ConnectionOpen}
use Rattle.amqp_typed.proofs.Places.{at_place, call_1}
use Rattle.amqp_typed.proofs.connection.OpenViewTypedView.of_view.Goals as goal

pub short_str_in-requires : goal.short_str_in-requires
short_str_in-requires c = at_place (lent_call c.args.method) ConnectionOpen 0 c.requires.1 refl

pub returns : goal.returns
returns c =
    call_1 _ _ c.requires.1 c.requires.0 refl
    c.short_str_in.ensures
