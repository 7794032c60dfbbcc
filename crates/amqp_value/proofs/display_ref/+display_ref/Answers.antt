use Rattle.std.proofs.Common.{◌++◌, ℕ, suc, List, [], refl, rules, arith}
use Rattle.std.specs.Prelude.{codes}
use Rattle.std.proofs.Output.{has_written_append, has_written_of_eq}
use Rattle.amqp_value.specs.Lent.{value_ref_view}
use Rattle.amqp_value.specs.Text.{quoted, value_text, items_text, pairs_text}
use Rattle.amqp_value.specs.Values.{Datum, items_of, pairs_of}
use Rattle.amqp_value.specs.Whole.{items_encoded, pairs_encoded}
use Rattle.amqp_value.proofs.Elements.{some_left, none_left, value_at-consumes, pair-consumes}
use Rattle.amqp_value.proofs.Owning.{next-item, next-pair, begins-item, begins-pair}
use Rattle.amqp_value.proofs.RefTexts.{item-written, items-written, pair-written, pairs-written}
use Rattle.amqp_value.proofs.display_ref.+display_ref.Goals as goal

pub write_items_ref-loop-rest-init : goal.write_items_ref-loop-rest-init
write_items_ref-loop-rest-init g t c = (omega arith, c.requires, 0, [], refl, refl, λ plain. search rules)

pub write_items_ref-split_value-requires : goal.write_items_ref-split_value-requires
write_items_ref-split_value-requires g t c = begins-item c.loop-rest.rest.now c.loop-rest.invariant.1 (some_left c.loop-rest.rest.now _ c.is_empty.ensures c.loop-rest-test.true)

pub write_items_ref-loop-rest-smaller : goal.write_items_ref-loop-rest-smaller
write_items_ref-loop-rest-smaller g t c =
    (value_at-consumes 31 0).consumes c.loop-rest.rest.now (value_ref_view c.split_value.result.0, c.split_value.result.1.now) c.split_value.ensures.read

pub write_items_ref-loop-rest-preserved : goal.write_items_ref-loop-rest-preserved
write_items_ref-loop-rest-preserved g t c =
    let rest = c.loop-rest.rest.now in
    let after = c.split_value.result.1.now in
    let value = value_ref_view c.split_value.result.0 in
    let next = next-item rest after value c.loop-rest.invariant.1 (some_left rest _ c.is_empty.ensures c.loop-rest-test.true) c.split_value.ensures.read in
    let n = c.loop-rest.invariant.2 in
    let text = c.loop-rest.invariant.3 in (
      omega (arith, next.shorter, c.loop-rest.invariant.0),
      next.are_whole,
      suc n,
      text ++ (c.loop-rest.comma.now ++ value_text value),
      refl,
      item-written text c.loop-rest.comma.now (items_text (items_of (items_encoded c.args.body.now))) rest after n value next c.loop-rest.invariant.4 c.loop-rest.invariant.5,
      λ plain.
          let before = c.loop-rest.invariant.6 plain in
          let comma = c.write_str.ensures.writes before.plain (search rules) in
          let written = c.write_value_ref.ensures comma.plain (search rules) in
          has_written_append _ _ _ _ _ _ before (has_written_append _ _ _ _ _ _ comma written),
    )

pub write_items_ref-returns : goal.write_items_ref-returns
write_items_ref-returns g t c = λ plain ok.
    has_written_of_eq _ _ _ _ _
    (items-written c.loop-rest.invariant.3 _ c.loop-rest.rest.now c.loop-rest.invariant.2 (none_left c.loop-rest.rest.now _ c.is_empty.ensures c.loop-rest-test.false) c.loop-rest.invariant.5)
    (c.loop-rest.invariant.6 plain)

pub write_pairs_ref-loop-rest-init : goal.write_pairs_ref-loop-rest-init
write_pairs_ref-loop-rest-init g t c = (omega arith, c.requires, 0, [], refl, refl, λ plain. search rules)

pub write_pairs_ref-split_pair-requires : goal.write_pairs_ref-split_pair-requires
write_pairs_ref-split_pair-requires g t c = begins-pair c.loop-rest.rest.now c.loop-rest.invariant.1 (some_left c.loop-rest.rest.now _ c.is_empty.ensures c.loop-rest-test.true)

pub write_pairs_ref-loop-rest-smaller : goal.write_pairs_ref-loop-rest-smaller
write_pairs_ref-loop-rest-smaller g t c =
    (pair-consumes 31 0).consumes c.loop-rest.rest.now ((c.split_pair.result.0.now, value_ref_view c.split_pair.result.1), c.split_pair.result.2.now) c.split_pair.ensures.read

pub write_pairs_ref-loop-rest-preserved : goal.write_pairs_ref-loop-rest-preserved
write_pairs_ref-loop-rest-preserved g t c =
    let rest = c.loop-rest.rest.now in
    let after = c.split_pair.result.2.now in
    let pair : List ℕ × Datum = (c.split_pair.result.0.now, value_ref_view c.split_pair.result.1) in
    let next = next-pair rest after pair c.loop-rest.invariant.1 (some_left rest _ c.is_empty.ensures c.loop-rest-test.true) c.split_pair.ensures.read in
    let n = c.loop-rest.invariant.2 in
    let text = c.loop-rest.invariant.3 in (
      omega (arith, next.shorter, c.loop-rest.invariant.0),
      next.are_whole,
      suc n,
      text ++ (c.loop-rest.comma.now ++ ((quoted pair.0 ++ codes "=") ++ value_text pair.1)),
      refl,
      pair-written text c.loop-rest.comma.now (pairs_text (pairs_of (pairs_encoded c.args.body.now))) rest after n pair next c.loop-rest.invariant.4 c.loop-rest.invariant.5,
      λ plain.
          let before = c.loop-rest.invariant.6 plain in
          let comma = c.write_str.ensures.writes before.plain (search rules) in
          let name = c.write_name.ensures comma.plain (search rules) in
          let written = c.write_value_ref.ensures name.plain (search rules) in
          has_written_append _ _ _ _ _ _ before (has_written_append _ _ _ _ _ _ comma (has_written_append _ _ _ _ _ _ name written)),
    )

pub write_pairs_ref-returns : goal.write_pairs_ref-returns
write_pairs_ref-returns g t c = λ plain ok.
    has_written_of_eq _ _ _ _ _
    (pairs-written c.loop-rest.invariant.3 _ c.loop-rest.rest.now c.loop-rest.invariant.2 (none_left c.loop-rest.rest.now _ c.is_empty.ensures c.loop-rest-test.false) c.loop-rest.invariant.5)
    (c.loop-rest.invariant.6 plain)
