use Rattle.std.proofs.Common.{refl}
use Rattle.amqp_method.specs.MethodRefView.{lent_call}
use Rattle.amqp_method.specs.declared.kinds.Kind.TheVariants.{QueueDeclare}
use Rattle.amqp_typed.proofs.Places.{at_place, call_7}
use Rattle.amqp_typed.proofs.queue.DeclareViewTypedView.of_view.Goals as goal

pub short_str_in-requires : goal.short_str_in-requires
short_str_in-requires c = at_place (lent_call c.args.method) QueueDeclare 0 c.requires.1 refl

pub bit_in-requires : goal.bit_in-requires
bit_in-requires c = at_place (lent_call c.args.method) QueueDeclare 1 c.requires.1 refl

pub bit_in-requires-2 : goal.bit_in-requires-2
bit_in-requires-2 c = at_place (lent_call c.args.method) QueueDeclare 2 c.requires.1 refl

pub bit_in-requires-3 : goal.bit_in-requires-3
bit_in-requires-3 c = at_place (lent_call c.args.method) QueueDeclare 3 c.requires.1 refl

pub bit_in-requires-4 : goal.bit_in-requires-4
bit_in-requires-4 c = at_place (lent_call c.args.method) QueueDeclare 4 c.requires.1 refl

pub bit_in-requires-5 : goal.bit_in-requires-5
bit_in-requires-5 c = at_place (lent_call c.args.method) QueueDeclare 5 c.requires.1 refl

pub table_in-requires : goal.table_in-requires
table_in-requires c = at_place (lent_call c.args.method) QueueDeclare 6 c.requires.1 refl

pub returns : goal.returns
returns c =
    call_7 _ _ c.requires.1 c.requires.0 refl
    c.short_str_in.ensures c.bit_in.ensures c.bit_in-2.ensures c.bit_in-3.ensures c.bit_in-4.ensures c.bit_in-5.ensures c.table_in.ensures
