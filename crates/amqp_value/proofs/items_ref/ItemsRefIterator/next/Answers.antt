use Rattle.std.proofs.Common.{length, ap, arith}
use Rattle.amqp_value.specs.Lent.{value_ref_view}
use Rattle.amqp_value.proofs.Elements.{some_left, none_left}
use Rattle.amqp_value.proofs.Owning.{next-item, begins-item}
use Rattle.amqp_value.proofs.Whole.{no-items}
use Rattle.amqp_value.proofs.items_ref.ItemsRefIterator.next.Goals as goal

pub returns-then-is_empty-clause-steps : goal.returns-then-is_empty-clause-steps
returns-then-is_empty-clause-steps c =
    let none = no-items c.args.self.now.rest.now (none_left c.args.self.now.rest.now _ c.is_empty.ensures c.if-is_empty.true) in
    (none, none)

pub split_value-requires : goal.split_value-requires
split_value-requires c =
    let rest = c.args.self.now.rest.now in
    begins-item rest c.args.self.now.are_items (some_left rest _ c.is_empty.ensures c.if-is_empty.false)

pub invariant_of-self : goal.invariant_of-self
invariant_of-self c =
    let rest = c.args.self.now.rest.now in
    let long = some_left rest _ c.is_empty.ensures c.if-is_empty.false in
    record { are_items = (next-item rest c.split_value.result.1.now (value_ref_view c.split_value.result.0) c.args.self.now.are_items long c.split_value.ensures.read).are_whole }

pub returns-clause-steps : goal.returns-clause-steps
returns-clause-steps c =
    let rest = c.args.self.now.rest.now in
    let long = some_left rest _ c.is_empty.ensures c.if-is_empty.false in
    (next-item rest c.split_value.result.1.now (value_ref_view c.split_value.result.0) c.args.self.now.are_items long c.split_value.ensures.read).list_is

pub returns-clause-goes : goal.returns-clause-goes
returns-clause-goes c =
    let rest = c.args.self.now.rest.now in
    let long = some_left rest _ c.is_empty.ensures c.if-is_empty.false in
    let list = ap length (next-item rest c.split_value.result.1.now (value_ref_view c.split_value.result.0) c.args.self.now.are_items long c.split_value.ensures.read).list_is in
    record { on = λ ends. (tt, tt, omega (arith, list)); keeps = tt; rests = λ ends. tt }
