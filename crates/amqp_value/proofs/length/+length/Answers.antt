use Rattle.std.proofs.Common.{◌≡◌, length, sym, ap, subst, ◌∙◌}
use Rattle.amqp_value.specs.Lengths.{capped}
use Rattle.amqp_value.specs.Plain.{plain_pairs, plain_value}
use Rattle.amqp_value.specs.Values.{table}
use Rattle.amqp_value.specs.View.{view, pairs_view}
use Rattle.amqp_value.proofs.Depths.{view-Table}
use Rattle.amqp_value.proofs.Lengths.{counted_length, items_next, pairs_next}
use Rattle.amqp_value.proofs.length.+length.Goals as goal

pub value_length-returns-in-Table : goal.value_length-returns-in-Table
value_length-returns-in-Table t c =
    let whole : view c.args.value.now ≡ table (pairs_view c.in-Table.pairs.items) = ap view c.in-Table.is ∙ view-Table c.in-Table.pairs in
    let inner : c.pairs_length.result ≡ capped (length (plain_pairs (pairs_view c.in-Table.pairs.items))) = c.pairs_length.ensures ∙ ap (λ ps. capped (length (plain_pairs (pairs_view ps)))) c.deref-in-Table.ensures.value in
    subst (λ v. c.followed_by-in-Table.result ≡ capped (length (plain_value v))) (sym whole)
    (counted_length c.followed_by-in-Table.result c.counted-in-Table.result c.pairs_length.result (plain_pairs (pairs_view c.in-Table.pairs.items)) inner c.counted-in-Table.ensures c.followed_by-in-Table.ensures)

pub items_length-loop-value-preserved : goal.items_length-loop-value-preserved
items_length-loop-value-preserved t c =
    items_next c.args.values.now c.loop-value.value-index c.value-item.result c.loop-value.octets c.value_length.result c.followed_by-octets.result c.loop-value-test.true c.value-item.is c.loop-value.invariant
    c.value_length.ensures c.followed_by-octets.ensures

pub pairs_length-loop-pair-preserved : goal.pairs_length-loop-pair-preserved
pairs_length-loop-pair-preserved t c =
    pairs_next c.args.pairs.now c.loop-pair.pair-index c.pair-item.result c.loop-pair.octets c.name_length.result c.followed_by-named.result c.value_length.result c.followed_by-octets.result c.loop-pair-test.true c.pair-item.is
    c.loop-pair.invariant c.name_length.ensures c.followed_by-named.ensures c.value_length.ensures c.followed_by-octets.ensures
