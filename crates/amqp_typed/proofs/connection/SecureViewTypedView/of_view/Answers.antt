use Rattle.std.proofs.Common.{refl}
use Rattle.amqp_method.specs.MethodRefView.{lent_call}
use Rattle.amqp_method.specs.declared.kinds.Kind.TheVariants.{ConnectionSecure}
use Rattle.amqp_typed.proofs.Places.{at_place, call_1}
use Rattle.amqp_typed.proofs.connection.SecureViewTypedView.of_view.Goals as goal

pub long_str_in-requires : goal.long_str_in-requires
long_str_in-requires c = at_place (lent_call c.args.method) ConnectionSecure 0 c.requires.1 refl

pub returns : goal.returns
returns c =
    call_1 _ _ c.requires.1 c.requires.0 refl
    c.long_str_in.ensures
