use Rattle.std.proofs.Common.{◌≡◌, ◌-◌, ◌<◌, ◌∙◌, ap, sym, refl, subst, ℕ, List, [], ◌∷◌, ◌++◌, length, take, drop, map, Ok, arith}
use Rattle.std.proofs.lemmas.List.{map_push, take_all, take_rest}
use Rattle.amqp_value.specs.Lent.{value_ref_view}
use Rattle.amqp_value.specs.Reading.{AddsOne, named, value_at}
use Rattle.amqp_value.specs.View.{view, named_view}
use Rattle.amqp_value.specs.Whole.{items_encoded, pairs_encoded}
use Rattle.amqp_value.specs.declared.values.Value.{Value}
use Rattle.amqp_value.proofs.Elements.{IsEnd-last, some_left, none_left, pair-consumes, value_at-consumes, named-ok}
use Rattle.amqp_value.proofs.Owning.{next-item, begins-item, begins-pair, pair-name, pair-value, keeps, adds, all-items, all-pairs}
use Rattle.amqp_value.proofs.own.+own.Goals as goal

pub own_items-split_value-requires : goal.own_items-split_value-requires
own_items-split_value-requires t c = begins-item c.loop-rest.rest.now c.loop-rest.invariant.1 (some_left c.loop-rest.rest.now _ c.is_empty.ensures c.loop-rest-test.true)

pub own_items-loop-rest-smaller : goal.own_items-loop-rest-smaller
own_items-loop-rest-smaller t c = (value_at-consumes 31 0).consumes c.loop-rest.rest.now (value_ref_view c.split_value.result.0, c.split_value.result.1.now) c.split_value.ensures.read

pub own_items-loop-rest-preserved : goal.own_items-loop-rest-preserved
own_items-loop-rest-preserved t c =
    let rest = c.loop-rest.rest.now in
    let after = c.split_value.result.1.now in
    let value = c.in_ok-own_value.field-0 in
    let long = some_left rest _ c.is_empty.ensures c.loop-rest-test.true in
    let next = next-item rest after (value_ref_view c.split_value.result.0) c.loop-rest.invariant.1 long c.split_value.ensures.read in
    let pushed : map view c.push.new.self.items ≡ map view c.loop-rest.values.items ++ value_ref_view c.split_value.result.0 ∷ [] =
    ap (map view) c.in_ok-push.ensures.items ∙ map_push view c.loop-rest.values.items value ∙ ap (λ v. map view c.loop-rest.values.items ++ v ∷ []) c.in_ok-own_value.ensures in (
      omega (arith, next.shorter, c.loop-rest.invariant.0),
      next.are_whole,
      rw pushed (keeps (map view c.loop-rest.values.items) (items_encoded rest) (items_encoded c.args.body.now) (value_ref_view c.split_value.result.0) (items_encoded after) next.list_is c.loop-rest.invariant.2),
    )

pub own_items-returns : goal.own_items-returns
own_items-returns t c =
    rw c.shrink_to_fit.ensures.items (all-items c.loop-rest.rest.now (map view c.loop-rest.values.items) (items_encoded c.args.body.now)
    (none_left c.loop-rest.rest.now _ c.is_empty.ensures c.loop-rest-test.false) c.loop-rest.invariant.2)

pub own_pair-split_name-requires : goal.own_pair-split_name-requires
own_pair-split_name-requires t c = pair-name c.args.octets.now c.requires

pub own_pair-split_value-requires : goal.own_pair-split_value-requires
own_pair-split_value-requires t c = pair-value c.args.octets.now c.split_name.result.0.now c.split_name.result.1.now c.requires c.split_name.ensures.read

pub own_pair-returns-clause-added : goal.own_pair-returns-clause-added
own_pair-returns-clause-added t c =
    let octets = c.args.octets.now in
    let before = c.args.pairs.now.items in
    let name = c.split_name.result.0.now in
    let after = c.split_value.result.1.now in
    let own = value_ref_view c.split_value.result.0 in
    let pair : List ℕ × Value = (c.in_ok-name.name, c.in_ok-value.value) in
    let is : named (value_at 31) 0 octets ≡ Ok ((name, own), after) =
    named-ok (value_at 31) 0 octets name c.split_name.result.1.now after own c.split_name.ensures.read c.split_value.ensures.read in
    let last = IsEnd-last after octets ((pair-consumes 31 0).leaves octets ((name, own), after) is) in
    let same_name : c.in_ok-name.name ≡ name = c.in_ok-name.ensures ∙ take_all _ name (omega arith) in
    record {
      element = (name, own);
      is_read = rw (← last) is;
      is_added =
          ap (map named_view) c.in_ok-push.ensures.items
          ∙ map_push named_view before pair
          ∙ ap (λ n. map named_view before ++ (n, view c.in_ok-value.value) ∷ []) same_name
          ∙ ap (λ v. map named_view before ++ (name, v) ∷ []) c.in_ok-value.ensures;
    }

pub own_pair-returns-clause-within : goal.own_pair-returns-clause-within
own_pair-returns-clause-within t c =
    omega (arith, c.split_name.ensures.within, (value_at-consumes 31 0).consumes c.split_name.result.1.now (value_ref_view c.split_value.result.0, c.split_value.result.1.now) c.split_value.ensures.read)

pub fill_pairs-own_short_pair-requires : goal.fill_pairs-own_short_pair-requires
fill_pairs-own_short_pair-requires t c =
    begins-pair c.loop-rest.rest.now c.loop-rest.invariant.1 (some_left c.loop-rest.rest.now _ c.is_empty.ensures c.loop-rest-test.true)

pub fill_pairs-own_pair-requires : goal.fill_pairs-own_pair-requires
fill_pairs-own_pair-requires t c =
    let whole = begins-pair c.loop-rest.rest.now c.loop-rest.invariant.1 (some_left c.loop-rest.rest.now _ c.is_empty.ensures c.loop-rest-test.true) in
    (omega (arith, c.loop-rest.invariant.0), whole)

pub fill_pairs-loop-rest-smaller-in-Some : goal.fill_pairs-loop-rest-smaller-in-Some
fill_pairs-loop-rest-smaller-in-Some t c =
    let one = c.in-Some.ensures.added in
    (pair-consumes 31 0).consumes c.loop-rest.rest.now (one.element, c.in-Some.after.now) one.is_read

pub fill_pairs-loop-rest-preserved-in-Some : goal.fill_pairs-loop-rest-preserved-in-Some
fill_pairs-loop-rest-preserved-in-Some t c =
    let long = some_left c.loop-rest.rest.now _ c.is_empty.ensures c.loop-rest-test.true in
    adds c.args.body.now c.loop-rest.rest.now c.in-Some.after.now (map named_view c.loop-rest.pairs.items) (map named_view c.own_short_pair.new.pairs.items) (c.in-Some.ensures.added)
    c.loop-rest.invariant.1 long c.loop-rest.invariant.0 c.loop-rest.invariant.2

pub fill_pairs-loop-rest-smaller : goal.fill_pairs-loop-rest-smaller
fill_pairs-loop-rest-smaller t c =
    let rest = c.loop-rest.rest.now in
    let place = length rest - c.in_ok-left-in-None.left in
    let one = c.in_ok-left-in-None.ensures.added in
    subst (λ after. length after < length rest) (sym (take_rest rest place)) ((pair-consumes 31 0).consumes rest (one.element, drop place rest) one.is_read)

pub fill_pairs-loop-rest-preserved : goal.fill_pairs-loop-rest-preserved
fill_pairs-loop-rest-preserved t c =
    let rest = c.loop-rest.rest.now in
    let place = length rest - c.in_ok-left-in-None.left in
    let after = take (length rest - place) (drop place rest) in
    let long = some_left rest _ c.is_empty.ensures c.loop-rest-test.true in
    let one : AddsOne (map named_view c.loop-rest.pairs.items) (named (value_at 31) 0 rest) after (map named_view c.own_pair.new.pairs.items) =
    rw (take_rest rest place, ← c.in-None.ensures.kept refl) c.in_ok-left-in-None.ensures.added in
    adds c.args.body.now rest after (map named_view c.loop-rest.pairs.items) (map named_view c.own_pair.new.pairs.items) one c.loop-rest.invariant.1 long c.loop-rest.invariant.0 c.loop-rest.invariant.2

pub fill_pairs-returns : goal.fill_pairs-returns
fill_pairs-returns t c =
    rw c.shrink_to_fit.ensures.items (all-pairs c.loop-rest.rest.now (map named_view c.loop-rest.pairs.items) (pairs_encoded c.args.body.now)
    (none_left c.loop-rest.rest.now _ c.is_empty.ensures c.loop-rest-test.false) c.loop-rest.invariant.2)
