use Rattle.std.proofs.Common.{refl}
use Rattle.amqp_method.specs.MethodView.{method_view}
use Rattle.amqp_method.specs.declared.kinds.Kind.TheVariants.{QueuePurgeOk}
use Rattle.amqp_typed.proofs.Places.{at_place, call_1}
use Rattle.amqp_typed.proofs.queue.PurgeOkTypedRef.of_ref.Goals as goal

pub long_at-requires : goal.long_at-requires
long_at-requires c = at_place (method_view c.args.method.now) QueuePurgeOk 0 c.requires refl

pub returns : goal.returns
returns c =
    call_1 _ _ c.requires c.args.method.now.fit refl
    c.long_at.ensures
