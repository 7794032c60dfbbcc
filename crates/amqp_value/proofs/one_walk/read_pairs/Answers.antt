use Rattle.std.proofs.Common.{◌-◌, ◌<◌, sym, subst, refl, length, take, drop, map}
use Rattle.std.proofs.lemmas.List.{take_rest}
use Rattle.amqp_value.specs.Reading.{AddsOne, elements, named, value_at}
use Rattle.amqp_value.specs.View.{named_view}
use Rattle.amqp_value.proofs.Elements.{some_left, none_left, pair-consumes}
use Rattle.amqp_value.proofs.Walking.{one-read, all-read}
use Rattle.amqp_value.proofs.one_walk.read_pairs.Goals as goal

pub loop-rest-smaller-in-Some : goal.loop-rest-smaller-in-Some
loop-rest-smaller-in-Some c =
    let one = c.in-Some.ensures.added 31 0 in
    (pair-consumes 31 0).consumes c.loop-rest.rest.now (one.element, c.in-Some.after.now) one.is_read

pub loop-rest-preserved-in-Some : goal.loop-rest-preserved-in-Some
loop-rest-preserved-in-Some c =
    let long = some_left c.loop-rest.rest.now _ c.is_empty.ensures c.loop-rest-test.true in
    one-read c.args.body.now c.loop-rest.rest.now c.in-Some.after.now (map named_view c.loop-rest.pairs.items) (map named_view c.read_short_pair.new.pairs.items) (c.in-Some.ensures.added 31 0)
    long c.loop-rest.invariant.0 c.loop-rest.invariant.1

pub loop-rest-smaller : goal.loop-rest-smaller
loop-rest-smaller c =
    let rest = c.loop-rest.rest.now in
    let place = length rest - c.in_ok-left-in-None.left in
    let one = c.in_ok-left-in-None.ensures.added in
    subst (λ after. length after < length rest) (sym (take_rest rest place)) ((pair-consumes 31 0).consumes rest (one.element, drop place rest) one.is_read)

pub loop-rest-preserved : goal.loop-rest-preserved
loop-rest-preserved c =
    let rest = c.loop-rest.rest.now in
    let place = length rest - c.in_ok-left-in-None.left in
    let after = take (length rest - place) (drop place rest) in
    let long = some_left rest _ c.is_empty.ensures c.loop-rest-test.true in
    let one : AddsOne (map named_view c.loop-rest.pairs.items) (named (value_at 31) 0 rest) after (map named_view c.read_pair.new.pairs.items) =
    rw (take_rest rest place, ← c.in-None.ensures.kept refl) c.in_ok-left-in-None.ensures.added in
    one-read c.args.body.now rest after (map named_view c.loop-rest.pairs.items) (map named_view c.read_pair.new.pairs.items) one long c.loop-rest.invariant.0 c.loop-rest.invariant.1

pub returns : goal.returns
returns c =
    rw c.shrink_to_fit.ensures.items (all-read c.loop-rest.rest.now (map named_view c.loop-rest.pairs.items) (elements (named (value_at 31)) 0 c.args.body.now)
    (none_left c.loop-rest.rest.now _ c.is_empty.ensures c.loop-rest-test.false) c.loop-rest.invariant.1)
