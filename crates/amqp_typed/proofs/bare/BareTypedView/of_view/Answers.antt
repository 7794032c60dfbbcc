use Rattle.amqp_typed.proofs.Places.{call_0}
use Rattle.amqp_typed.proofs.bare.BareTypedView.of_view.Goals as goal

pub returns : goal.returns
returns g c = call_0 _ _ c.requires.1 c.requires.0 g.K.BareKind.bare
