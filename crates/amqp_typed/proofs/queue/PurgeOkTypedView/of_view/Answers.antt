use Rattle.std.proofs.Common.{refl}
use Rattle.amqp_method.specs.MethodRefView.{lent_call}
use Rattle.amqp_method.specs.declared.kinds.Kind.TheVariants.{QueuePurgeOk}
use Rattle.amqp_typed.proofs.Places.{at_place, call_1}
use Rattle.amqp_typed.proofs.queue.PurgeOkTypedView.of_view.Goals as goal

pub long_in-requires : goal.long_in-requires
long_in-requires c = at_place (lent_call c.args.method) QueuePurgeOk 0 c.requires.1 refl

pub returns : goal.returns
returns c =
    call_1 _ _ c.requires.1 c.requires.0 refl
    c.long_in.ensures
