use Rattle.std.proofs.Common.{refl}
use Rattle.amqp_method.specs.MethodView.{method_view}
use Rattle.amqp_method.specs.declared.kinds.Kind.TheVariants.{ConnectionTune}
use Rattle.amqp_typed.proofs.Places.{at_place, call_3}
use Rattle.amqp_typed.proofs.connection.TuneTypedRef.of_ref.Goals as goal

pub short_at-requires : goal.short_at-requires
short_at-requires c = at_place (method_view c.args.method.now) ConnectionTune 0 c.requires refl

pub long_at-requires : goal.long_at-requires
long_at-requires c = at_place (method_view c.args.method.now) ConnectionTune 1 c.requires refl

pub short_at-requires-2 : goal.short_at-requires-2
short_at-requires-2 c = at_place (method_view c.args.method.now) ConnectionTune 2 c.requires refl

pub returns : goal.returns
returns c =
    call_3 _ _ c.requires c.args.method.now.fit refl
    c.short_at.ensures c.long_at.ensures c.short_at-2.ensures
