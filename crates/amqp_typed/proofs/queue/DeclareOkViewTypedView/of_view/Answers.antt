use Rattle.std.proofs.Common.{refl}
use Rattle.amqp_method.specs.MethodRefView.{lent_call}
use Rattle.amqp_method.specs.declared.kinds.Kind.TheVariants.{QueueDeclareOk}
use Rattle.amqp_typed.proofs.Places.{at_place, call_3}
use Rattle.amqp_typed.proofs.queue.DeclareOkViewTypedView.of_view.Goals as goal

pub short_str_in-requires : goal.short_str_in-requires
short_str_in-requires c = at_place (lent_call c.args.method) QueueDeclareOk 0 c.requires.1 refl

pub long_in-requires : goal.long_in-requires
long_in-requires c = at_place (lent_call c.args.method) QueueDeclareOk 1 c.requires.1 refl

pub long_in-requires-2 : goal.long_in-requires-2
long_in-requires-2 c = at_place (lent_call c.args.method) QueueDeclareOk 2 c.requires.1 refl

pub returns : goal.returns
returns c =
    call_3 _ _ c.requires.1 c.requires.0 refl
    c.short_str_in.ensures c.long_in.ensures c.long_in-2.ensures
