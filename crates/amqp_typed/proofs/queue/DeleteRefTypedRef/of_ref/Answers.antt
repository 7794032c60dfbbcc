use Rattle.std.proofs.Common.{refl}
use Rattle.amqp_method.specs.MethodView.{method_view}
use Rattle.amqp_method.specs.declared.kinds.Kind.TheVariants.{QueueDelete}
use Rattle.amqp_typed.proofs.Places.{at_place, call_4}
use Rattle.amqp_typed.proofs.queue.DeleteRefTypedRef.of_ref.Goals as goal

pub short_str_at-requires : goal.short_str_at-requires
short_str_at-requires c = at_place (method_view c.args.method.now) QueueDelete 0 c.requires refl

pub bit_at-requires : goal.bit_at-requires
bit_at-requires c = at_place (method_view c.args.method.now) QueueDelete 1 c.requires refl

pub bit_at-requires-2 : goal.bit_at-requires-2
bit_at-requires-2 c = at_place (method_view c.args.method.now) QueueDelete 2 c.requires refl

pub bit_at-requires-3 : goal.bit_at-requires-3
bit_at-requires-3 c = at_place (method_view c.args.method.now) QueueDelete 3 c.requires refl

pub returns : goal.returns
returns c =
    call_4 _ _ c.requires c.args.method.now.fit refl
    c.short_str_at.ensures c.bit_at.ensures c.bit_at-2.ensures c.bit_at-3.ensures
