use Rattle.std.proofs.Common.{refl}
use Rattle.amqp_method.specs.MethodView.{method_view}
use Rattle.amqp_method.specs.declared.kinds.Kind.TheVariants.{QueueDeclareOk}
use Rattle.amqp_typed.proofs.Places.{at_place, call_3}
use Rattle.amqp_typed.proofs.queue.DeclareOkRefTypedRef.of_ref.Goals as goal

pub short_str_at-requires : goal.short_str_at-requires
short_str_at-requires c = at_place (method_view c.args.method.now) QueueDeclareOk 0 c.requires refl

pub long_at-requires : goal.long_at-requires
long_at-requires c = at_place (method_view c.args.method.now) QueueDeclareOk 1 c.requires refl

pub long_at-requires-2 : goal.long_at-requires-2
long_at-requires-2 c = at_place (method_view c.args.method.now) QueueDeclareOk 2 c.requires refl

pub returns : goal.returns
returns c =
    call_3 _ _ c.requires c.args.method.now.fit refl
    c.short_str_at.ensures c.long_at.ensures c.long_at-2.ensures
