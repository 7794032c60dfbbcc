use Rattle.std.proofs.Common.{◌≡◌, ◌+◌, ◌++◌, ◌∷◌, [], length, Err, sym, ap, subst, ◌∙◌, arith, length-append}
use Rattle.std.proofs.lemmas.Result.{err_from_is_err_and}
use Rattle.amqp_value.specs.Plain.{plain_items, plain_pairs, plain_value, CountsFit}
use Rattle.amqp_value.specs.Values.{table}
use Rattle.amqp_value.specs.View.{view, items_view, pairs_view}
use Rattle.amqp_value.proofs.Depths.{view-Table}
use Rattle.amqp_value.proofs.Written.{kept_after, filled_count, on_ok, ItemsPut-next, PairsPut-next, item_count_fits, pair_count_fits}
use Rattle.amqp_value.proofs.write.+write.Goals as goal

pub put_array-returns-clause-ok : goal.put_array-returns-clause-ok
put_array-returns-clause-ok t c =
    let old = c.args.out.now.items in
    let at : c.len-hole.result + 1 ≡ length (old ++ 65 ∷ []) = omega (arith, length-append old (65 ∷ [])) in
    let counted = filled_count old (65 ∷ []) (plain_items (items_view c.args.values.now)) c.put_items.new.out.items c.put_field.new.out.items (c.len-hole.result + 1) at c.in_ok-put_field.ensures.ok c.in_ok-put_items.ensures.ok in
    on_ok c.fill_count.result (λ is. is ∙ counted) c.fill_count.ensures.ok

pub put_table-returns-clause-ok : goal.put_table-returns-clause-ok
put_table-returns-clause-ok t c =
    let old = c.args.out.now.items in
    let at : c.len-hole.result + 1 ≡ length (old ++ 70 ∷ []) = omega (arith, length-append old (70 ∷ [])) in
    let counted = filled_count old (70 ∷ []) (plain_pairs (pairs_view c.args.pairs.now)) c.put_pairs.new.out.items c.put_field.new.out.items (c.len-hole.result + 1) at c.in_ok-put_field.ensures.ok c.in_ok-put_pairs.ensures.ok in
    on_ok c.fill_count.result (λ is. is ∙ counted) c.fill_count.ensures.ok

pub put_items-returns-in_err-put_value-clause-too_long :
    goal.put_items-returns-in_err-put_value-clause-too_long
put_items-returns-in_err-put_value-clause-too_long t c =
    let p = err_from_is_err_and c.from_residual.result c.from_residual.ensures.1 in
    λ h fits. c.in_err-put_value.ensures.too_long (ap (λ f. Err f) (sym p.2) ∙ sym p.1 ∙ h)
    (subst (λ v. CountsFit (view v)) (sym c.value-item.is) (item_count_fits c.args.values.now c.loop-value.value-index c.value-item.result c.loop-value-test.true fits))

pub put_items-returns-in_err-put_value-clause-kept :
    goal.put_items-returns-in_err-put_value-clause-kept
put_items-returns-in_err-put_value-clause-kept t c =
    let p = err_from_is_err_and c.from_residual.result c.from_residual.ensures.1 in
    rw p.1 (kept_after c.args.out.now.items _ c.loop-value.out.items c.put_value.new.out.items c.loop-value.invariant.out_is c.in_err-put_value.ensures.kept)

pub put_items-loop-value-preserved : goal.put_items-loop-value-preserved
put_items-loop-value-preserved t c =
    ItemsPut-next c.args.out.now.items c.loop-value.out.items c.put_value.new.out.items c.args.values.now c.loop-value.value-index c.value-item.result c.loop-value-test.true c.value-item.is c.loop-value.invariant
    c.in_ok-put_value.ensures.ok c.in_ok-put_value.ensures.encoded

pub put_pairs-returns-in_err-put_name-clause-kept :
    goal.put_pairs-returns-in_err-put_name-clause-kept
put_pairs-returns-in_err-put_name-clause-kept t c =
    let p = err_from_is_err_and c.from_residual.result c.from_residual.ensures.1 in
    rw p.1 (kept_after c.args.out.now.items _ c.loop-pair.out.items c.put_name.new.out.items c.loop-pair.invariant.out_is c.in_err-put_name.ensures.kept)

pub put_pairs-returns-in_err-put_value-clause-too_long :
    goal.put_pairs-returns-in_err-put_value-clause-too_long
put_pairs-returns-in_err-put_value-clause-too_long t c =
    let p = err_from_is_err_and c.from_residual-in_err-put_value.result c.from_residual-in_err-put_value.ensures.1 in
    λ h fits. c.in_err-put_value.ensures.too_long (ap (λ f. Err f) (sym p.2) ∙ sym p.1 ∙ h)
    (subst (λ v. CountsFit (view v.1)) (sym c.pair-item.is) (pair_count_fits c.args.pairs.now c.loop-pair.pair-index c.pair-item.result c.loop-pair-test.true fits))

pub put_pairs-returns-in_err-put_value-clause-kept :
    goal.put_pairs-returns-in_err-put_value-clause-kept
put_pairs-returns-in_err-put_value-clause-kept t c =
    let p = err_from_is_err_and c.from_residual-in_err-put_value.result c.from_residual-in_err-put_value.ensures.1 in
    let named = kept_after c.loop-pair.out.items _ c.put_name.new.out.items c.put_value.new.out.items c.in_ok-put_name.ensures.ok c.in_err-put_value.ensures.kept in
    rw p.1 (kept_after c.args.out.now.items _ c.loop-pair.out.items c.put_value.new.out.items c.loop-pair.invariant.out_is named)

pub put_pairs-loop-pair-preserved : goal.put_pairs-loop-pair-preserved
put_pairs-loop-pair-preserved t c =
    PairsPut-next c.args.out.now.items c.loop-pair.out.items c.put_name.new.out.items c.put_value.new.out.items c.args.pairs.now c.loop-pair.pair-index c.pair-item.result c.loop-pair-test.true c.pair-item.is c.loop-pair.invariant
    c.in_ok-put_name.ensures.ok c.in_ok-put_name.ensures.encoded c.in_ok-put_value.ensures.ok c.in_ok-put_value.ensures.encoded

pub put_value-returns-in-Table-clause-ok : goal.put_value-returns-in-Table-clause-ok
put_value-returns-in-Table-clause-ok t c =
    let whole : view c.args.value.now ≡ table (pairs_view c.in-Table.pairs.items) = ap view c.in-Table.is ∙ view-Table c.in-Table.pairs in
    on_ok c.put_table.result (λ is. is ∙ ap (λ ps. c.args.out.now.items ++ plain_value (table (pairs_view ps))) c.deref-in-Table.ensures.value ∙ ap (λ v. c.args.out.now.items ++ plain_value v) (sym whole)) c.put_table.ensures.ok
