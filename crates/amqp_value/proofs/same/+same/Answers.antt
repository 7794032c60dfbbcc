use Rattle.std.proofs.Common.{◌≡◌, ◌∙◌, ◌&&◌, true, false, List, ℕ, sym, ap, arith}
use Rattle.amqp_value.specs.Same.{same_datum}
use Rattle.amqp_value.specs.Lent.{value_ref_view}
use Rattle.amqp_value.specs.Values.{Datum}
use Rattle.std.specs.Str.{bytes_eq}
use Rattle.amqp_value.proofs.Elements.{some_left, none_left, value_at-consumes, pair-consumes}
use Rattle.amqp_value.proofs.Owning.{next-item, next-pair, begins-item, begins-pair}
use Rattle.amqp_value.proofs.Sameness.{items_alike, pairs_alike, items-first, items-more, items-end, pairs-first, pairs-more, pairs-end, other-name, other-value, same-pair}
use Rattle.amqp_value.proofs.same.+same.Goals as goal
use Rattle.amqp_value.proofs.same.+same.Goals.{same_pairs-then-ne-via-then-ne, same_pairs-then-ne-via-else-ne+then-not-same_values}

pub same_items-returns-then-is_empty : goal.same_items-returns-then-is_empty
same_items-returns-then-is_empty t c =
    let rest = c.loop-rest.rest.now in
    let beside = c.loop-rest.beside.now in
    sym (items-more rest beside c.loop-rest.invariant.1 (some_left rest _ c.is_empty.ensures c.loop-rest-test.true) (none_left beside _ c.is_empty-in-loop-rest.ensures c.if-is_empty.true))
    ∙ c.loop-rest.invariant.3

pub same_items-split_value-requires : goal.same_items-split_value-requires
same_items-split_value-requires t c = begins-item c.loop-rest.rest.now c.loop-rest.invariant.1 (some_left c.loop-rest.rest.now _ c.is_empty.ensures c.loop-rest-test.true)

pub same_items-split_value-requires-in-loop-rest : goal.same_items-split_value-requires-in-loop-rest
same_items-split_value-requires-in-loop-rest t c =
    begins-item c.loop-rest.beside.now c.loop-rest.invariant.2 (some_left c.loop-rest.beside.now _ c.is_empty-in-loop-rest.ensures c.if-is_empty.false)

pub same_items-returns-then-not-same_values : goal.same_items-returns-then-not-same_values
same_items-returns-then-not-same_values t c =
    let rest = c.loop-rest.rest.now in
    let beside = c.loop-rest.beside.now in
    let one = next-item rest c.split_value.result.1.now (value_ref_view c.split_value.result.0) c.loop-rest.invariant.1 (some_left rest _ c.is_empty.ensures c.loop-rest-test.true) c.split_value.ensures.read in
    let two = next-item beside c.split_value-in-loop-rest.result.1.now (value_ref_view c.split_value-in-loop-rest.result.0) c.loop-rest.invariant.2 (some_left beside _ c.is_empty-in-loop-rest.ensures c.if-is_empty.false) c.split_value-in-loop-rest.ensures.read in
    let other : false ≡ same_datum (value_ref_view c.split_value.result.0) (value_ref_view c.split_value-in-loop-rest.result.0) = sym c.if-not-same_values.true ∙ c.same_values.ensures in
    ap (λ s. s && items_alike c.split_value.result.1.now c.split_value-in-loop-rest.result.1.now) other
    ∙ sym (items-first rest _ beside _ _ _ one two)
    ∙ c.loop-rest.invariant.3

pub same_items-loop-rest-smaller : goal.same_items-loop-rest-smaller
same_items-loop-rest-smaller t c = (value_at-consumes 31 0).consumes c.loop-rest.rest.now (value_ref_view c.split_value.result.0, c.split_value.result.1.now) c.split_value.ensures.read

pub same_items-loop-rest-preserved : goal.same_items-loop-rest-preserved
same_items-loop-rest-preserved t c =
    let rest = c.loop-rest.rest.now in
    let beside = c.loop-rest.beside.now in
    let one = next-item rest c.split_value.result.1.now (value_ref_view c.split_value.result.0) c.loop-rest.invariant.1 (some_left rest _ c.is_empty.ensures c.loop-rest-test.true) c.split_value.ensures.read in
    let two = next-item beside c.split_value-in-loop-rest.result.1.now (value_ref_view c.split_value-in-loop-rest.result.0) c.loop-rest.invariant.2 (some_left beside _ c.is_empty-in-loop-rest.ensures c.if-is_empty.false) c.split_value-in-loop-rest.ensures.read in
    let same : true ≡ same_datum (value_ref_view c.split_value.result.0) (value_ref_view c.split_value-in-loop-rest.result.0) = sym c.if-not-same_values.false ∙ c.same_values.ensures in (
      omega (arith, one.shorter, c.loop-rest.invariant.0),
      one.are_whole,
      two.are_whole,
      ap (λ s. s && items_alike c.split_value.result.1.now c.split_value-in-loop-rest.result.1.now) same
          ∙ sym (items-first rest _ beside _ _ _ one two)
          ∙ c.loop-rest.invariant.3,
    )

pub same_items-returns : goal.same_items-returns
same_items-returns t c =
    c.is_empty-2.ensures
    ∙ items-end c.loop-rest.rest.now c.loop-rest.beside.now c.loop-rest.invariant.2 (none_left c.loop-rest.rest.now _ c.is_empty.ensures c.loop-rest-test.false)
    ∙ c.loop-rest.invariant.3

pub same_pairs-returns-then-is_empty : goal.same_pairs-returns-then-is_empty
same_pairs-returns-then-is_empty t c =
    let rest = c.loop-rest.rest.now in
    let beside = c.loop-rest.beside.now in
    sym (pairs-more rest beside c.loop-rest.invariant.1 (some_left rest _ c.is_empty.ensures c.loop-rest-test.true) (none_left beside _ c.is_empty-in-loop-rest.ensures c.if-is_empty.true))
    ∙ c.loop-rest.invariant.3

pub same_pairs-split_pair-requires : goal.same_pairs-split_pair-requires
same_pairs-split_pair-requires t c = begins-pair c.loop-rest.rest.now c.loop-rest.invariant.1 (some_left c.loop-rest.rest.now _ c.is_empty.ensures c.loop-rest-test.true)

pub same_pairs-split_pair-requires-in-loop-rest : goal.same_pairs-split_pair-requires-in-loop-rest
same_pairs-split_pair-requires-in-loop-rest t c =
    begins-pair c.loop-rest.beside.now c.loop-rest.invariant.2 (some_left c.loop-rest.beside.now _ c.is_empty-in-loop-rest.ensures c.if-is_empty.false)

pub same_pairs-returns-then-ne : goal.same_pairs-returns-then-ne
same_pairs-returns-then-ne t c =
    let rest = c.loop-rest.rest.now in
    let beside = c.loop-rest.beside.now in
    let first : List ℕ × Datum = (c.split_pair.result.0.now, value_ref_view c.split_pair.result.1) in
    let second : List ℕ × Datum = (c.split_pair-in-loop-rest.result.0.now, value_ref_view c.split_pair-in-loop-rest.result.1) in
    let after = c.split_pair.result.2.now in
    let behind = c.split_pair-in-loop-rest.result.2.now in
    let one = next-pair rest after first c.loop-rest.invariant.1 (some_left rest _ c.is_empty.ensures c.loop-rest-test.true) c.split_pair.ensures.read in
    let two = next-pair beside behind second c.loop-rest.invariant.2 (some_left beside _ c.is_empty-in-loop-rest.ensures c.if-is_empty.false) c.split_pair-in-loop-rest.ensures.read in
    let parts = pairs-first rest after beside behind first second one two in
    let names = bytes_eq first.0 second.0 in
    let values = same_datum first.1 second.1 in
    let later = pairs_alike after behind in
    let other : pairs_alike rest beside ≡ false = elim c.then-ne.branch [
      | same_pairs-then-ne-via-then-ne w ↦ parts ∙ other-name names values later (sym w.if-ne.true ∙ c.ne.ensures)
      | same_pairs-then-ne-via-else-ne+then-not-same_values w ↦ parts ∙ other-value names values later (sym w.if-not-same_values.true ∙ w.same_values.ensures)
    ] in
    sym other ∙ c.loop-rest.invariant.3

pub same_pairs-loop-rest-smaller : goal.same_pairs-loop-rest-smaller
same_pairs-loop-rest-smaller t c =
    (pair-consumes 31 0).consumes c.loop-rest.rest.now ((c.split_pair.result.0.now, value_ref_view c.split_pair.result.1), c.split_pair.result.2.now) c.split_pair.ensures.read

pub same_pairs-loop-rest-preserved : goal.same_pairs-loop-rest-preserved
same_pairs-loop-rest-preserved t c =
    let rest = c.loop-rest.rest.now in
    let beside = c.loop-rest.beside.now in
    let first : List ℕ × Datum = (c.split_pair.result.0.now, value_ref_view c.split_pair.result.1) in
    let second : List ℕ × Datum = (c.split_pair-in-loop-rest.result.0.now, value_ref_view c.split_pair-in-loop-rest.result.1) in
    let after = c.split_pair.result.2.now in
    let behind = c.split_pair-in-loop-rest.result.2.now in
    let one = next-pair rest after first c.loop-rest.invariant.1 (some_left rest _ c.is_empty.ensures c.loop-rest-test.true) c.split_pair.ensures.read in
    let two = next-pair beside behind second c.loop-rest.invariant.2 (some_left beside _ c.is_empty-in-loop-rest.ensures c.if-is_empty.false) c.split_pair-in-loop-rest.ensures.read in
    let parts = pairs-first rest after beside behind first second one two in
    let names = bytes_eq first.0 second.0 in
    let values = same_datum first.1 second.1 in
    let later = pairs_alike after behind in (
      omega (arith, one.shorter, c.loop-rest.invariant.0),
      one.are_whole,
      two.are_whole,
      sym (parts ∙ same-pair names values later (sym c.if-ne.false ∙ c.ne.ensures) (sym c.if-not-same_values.false ∙ c.same_values.ensures)) ∙ c.loop-rest.invariant.3,
    )

pub same_pairs-returns : goal.same_pairs-returns
same_pairs-returns t c =
    c.is_empty-2.ensures
    ∙ pairs-end c.loop-rest.rest.now c.loop-rest.beside.now c.loop-rest.invariant.2 (none_left c.loop-rest.rest.now _ c.is_empty.ensures c.loop-rest-test.false)
    ∙ c.loop-rest.invariant.3
