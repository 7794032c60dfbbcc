use Rattle.std.proofs.Common.{◌≡◌, ◌≤◌, ◌<◌, suc, length, get_or, refl, arith}
use Rattle.amqp_value.specs.Values.{depth}
use Rattle.amqp_value.specs.View.{view}
use Rattle.amqp_value.proofs.Depths.{items_depth-next, pairs_depth-next, array_too_deep, table_too_deep, array_within, table_within, fails_as, above_from}
use Rattle.amqp_value.proofs.values.+nests_within.Goals as goal

pub returns-then-not-nests_within : goal.returns-then-not-nests_within
returns-then-not-nests_within t c =
    let values = c.in-Array.values in
    let lt : c.loop-item.item-index < length values.items = rw (← c.deref-item-items.ensures.value) c.loop-item-test.true in
    let deep : c.in-Some.inner < depth (view c.item-item.result) = above_from c.nests_within.result _ _ c.nests_within.ensures c.if-not-nests_within.true in
    let here : c.in-Some.inner < depth (view (get_or values.items c.loop-item.item-index c.item-item.result)) = rw (← c.deref-item-items.ensures.value, ← c.item-item.is) deep in
    let one : suc c.in-Some.inner ≡ c.args.levels = omega (arith, c.in-Some.ensures) in
    fails_as (array_too_deep c.args.value.now values c.args.levels c.in-Some.inner c.loop-item.item-index c.item-item.result c.in-Array.is one lt here)

pub loop-item-preserved : goal.loop-item-preserved
loop-item-preserved t c =
    let fits : depth (view c.item-item.result) ≤ c.in-Some.inner = c.nests_within.ensures.0 c.if-not-nests_within.false in
    items_depth-next c.deref-item-items.result.now c.loop-item.item-index c.item-item.result c.in-Some.inner c.loop-item-test.true c.loop-item.invariant (rw (← c.item-item.is) fits)

pub returns-after-loop-item : goal.returns-after-loop-item
returns-after-loop-item t c =
    let one : suc c.in-Some.inner ≡ c.args.levels = omega (arith, c.in-Some.ensures) in
    let within = array_within c.args.value.now c.in-Array.values c.args.levels c.in-Some.inner c.loop-item.item-index c.in-Array.is one (rw (← c.deref-item-items.ensures.value) c.loop-item-test.false)
    (rw (← c.deref-item-items.ensures.value) c.loop-item.invariant) in
    (λ h. within, λ h. refl)

pub returns-then-not-nests_within-2 : goal.returns-then-not-nests_within-2
returns-then-not-nests_within-2 t c =
    let pairs = c.in-Table.pairs in
    let inner = c.in-Some-checked_sub.inner in
    let lt : c.loop-pair.pair-index < length pairs.items = rw (← c.deref-pair-items.ensures.value) c.loop-pair-test.true in
    let deep : inner < depth (view c.pair-item.result.1) = above_from c.nests_within-in-loop-pair.result _ _ c.nests_within-in-loop-pair.ensures c.if-not-nests_within-2.true in
    let here : inner < depth (view (get_or pairs.items c.loop-pair.pair-index c.pair-item.result).1) = rw (← c.deref-pair-items.ensures.value, ← c.pair-item.is) deep in
    let one : suc inner ≡ c.args.levels = omega (arith, c.in-Some-checked_sub.ensures) in
    fails_as (table_too_deep c.args.value.now pairs c.args.levels inner c.loop-pair.pair-index c.pair-item.result c.in-Table.is one lt here)

pub loop-pair-preserved : goal.loop-pair-preserved
loop-pair-preserved t c =
    let fits : depth (view c.pair-item.result.1) ≤ c.in-Some-checked_sub.inner = c.nests_within-in-loop-pair.ensures.0 c.if-not-nests_within-2.false in
    pairs_depth-next c.deref-pair-items.result.now c.loop-pair.pair-index c.pair-item.result c.in-Some-checked_sub.inner c.loop-pair-test.true c.loop-pair.invariant (rw (← c.pair-item.is) fits)

pub returns-after-loop-pair : goal.returns-after-loop-pair
returns-after-loop-pair t c =
    let one : suc c.in-Some-checked_sub.inner ≡ c.args.levels = omega (arith, c.in-Some-checked_sub.ensures) in
    let within = table_within c.args.value.now c.in-Table.pairs c.args.levels c.in-Some-checked_sub.inner c.loop-pair.pair-index c.in-Table.is one (rw (← c.deref-pair-items.ensures.value) c.loop-pair-test.false)
    (rw (← c.deref-pair-items.ensures.value) c.loop-pair.invariant) in
    (λ h. within, λ h. refl)
