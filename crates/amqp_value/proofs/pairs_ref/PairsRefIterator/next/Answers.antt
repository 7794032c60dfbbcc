use Rattle.std.proofs.Common.{length, ap, arith}
use Rattle.amqp_value.specs.Lent.{value_ref_view}
use Rattle.amqp_value.specs.Reading.{value_at}
use Rattle.amqp_value.proofs.Elements.{some_left, none_left, named-ok}
use Rattle.amqp_value.proofs.Owning.{next-pair, begins-pair, pair-name, pair-value}
use Rattle.amqp_value.proofs.Whole.{no-pairs}
use Rattle.amqp_value.proofs.pairs_ref.PairsRefIterator.next.Goals as goal

pub returns-then-is_empty-clause-steps : goal.returns-then-is_empty-clause-steps
returns-then-is_empty-clause-steps c =
    let none = no-pairs c.args.self.now.rest.now (none_left c.args.self.now.rest.now _ c.is_empty.ensures c.if-is_empty.true) in
    (none, none)

pub split_name-requires : goal.split_name-requires
split_name-requires c =
    let rest = c.args.self.now.rest.now in
    pair-name rest (begins-pair rest c.args.self.now.are_pairs (some_left rest _ c.is_empty.ensures c.if-is_empty.false))

pub split_value-requires : goal.split_value-requires
split_value-requires c =
    let rest = c.args.self.now.rest.now in
    pair-value rest c.split_name.result.0.now c.split_name.result.1.now (begins-pair rest c.args.self.now.are_pairs (some_left rest _ c.is_empty.ensures c.if-is_empty.false)) c.split_name.ensures.read

pub invariant_of-self : goal.invariant_of-self
invariant_of-self c =
    let rest = c.args.self.now.rest.now in
    let long = some_left rest _ c.is_empty.ensures c.if-is_empty.false in
    let is = named-ok (value_at 31) 0 rest c.split_name.result.0.now c.split_name.result.1.now c.split_value.result.1.now (value_ref_view c.split_value.result.0) c.split_name.ensures.read c.split_value.ensures.read in
    record { are_pairs = (next-pair rest c.split_value.result.1.now (c.split_name.result.0.now, value_ref_view c.split_value.result.0) c.args.self.now.are_pairs long is).are_whole }

pub returns-clause-steps : goal.returns-clause-steps
returns-clause-steps c =
    let rest = c.args.self.now.rest.now in
    let long = some_left rest _ c.is_empty.ensures c.if-is_empty.false in
    let is = named-ok (value_at 31) 0 rest c.split_name.result.0.now c.split_name.result.1.now c.split_value.result.1.now (value_ref_view c.split_value.result.0) c.split_name.ensures.read c.split_value.ensures.read in
    (next-pair rest c.split_value.result.1.now (c.split_name.result.0.now, value_ref_view c.split_value.result.0) c.args.self.now.are_pairs long is).list_is

pub returns-clause-goes : goal.returns-clause-goes
returns-clause-goes c =
    let rest = c.args.self.now.rest.now in
    let long = some_left rest _ c.is_empty.ensures c.if-is_empty.false in
    let is = named-ok (value_at 31) 0 rest c.split_name.result.0.now c.split_name.result.1.now c.split_value.result.1.now (value_ref_view c.split_value.result.0) c.split_name.ensures.read c.split_value.ensures.read in
    let list = ap length (next-pair rest c.split_value.result.1.now (c.split_name.result.0.now, value_ref_view c.split_value.result.0) c.args.self.now.are_pairs long is).list_is in
    record { on = λ ends. (tt, tt, omega (arith, list)); keeps = tt; rests = λ ends. tt }
