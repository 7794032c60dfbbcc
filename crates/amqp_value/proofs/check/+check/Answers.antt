use Rattle.std.proofs.Common.{◌≡◌, ◌∙◌, ◌-◌, ◌≤◌, ◌<◌, ℕ, List, Ok, ap, sym, length, drop, arith}
use Rattle.std.proofs.lemmas.List.{take_rest}
use Rattle.std.proofs.lemmas.Result.{err_from_is_err_and}
use Rattle.amqp_value.specs.Checking.{skipped, fault_in}
use Rattle.amqp_value.specs.Reading.{elements, name_at, named, value_at}
use Rattle.amqp_value.proofs.Elements.{some_left, none_left, value_at-consumes, pair-consumes}
use Rattle.amqp_value.proofs.Skipping.{fault_goes_on, fault_ends, fault_is_done, skipped-shorter, skipped-last, named-skipped, named-unnamed}
use Rattle.amqp_value.proofs.check.+check.Goals as goal

pub check_items-returns-in_err-rest : goal.check_items-returns-in_err-rest
check_items-returns-in_err-rest t c =
    let p = err_from_is_err_and c.from_residual.result c.from_residual.ensures.1 in
    let long = some_left c.loop-rest.rest.now _ c.is_empty.ensures c.loop-rest-test.true in
    rw (p.1, p.2) (sym (fault_ends (value_at c.args.levels) c.args.end (value_at-consumes c.args.levels c.args.end) c.in_err-rest.field-0.0 c.loop-rest.rest.now
    (elements (value_at c.args.levels) c.args.end c.args.body.now) long c.in_err-rest.ensures c.loop-rest.invariant.1))

pub check_items-loop-rest-smaller : goal.check_items-loop-rest-smaller
check_items-loop-rest-smaller t c =
    skipped-shorter (value_at c.args.levels) c.args.end (value_at-consumes c.args.levels c.args.end) c.loop-rest.rest.now c.in_ok-rest.rest.now c.in_ok-rest.ensures

pub check_items-loop-rest-preserved : goal.check_items-loop-rest-preserved
check_items-loop-rest-preserved t c =
    let consumes = value_at-consumes c.args.levels c.args.end in
    let long = some_left c.loop-rest.rest.now _ c.is_empty.ensures c.loop-rest-test.true in
    let shorter : length c.in_ok-rest.rest.now < length c.loop-rest.rest.now =
    skipped-shorter (value_at c.args.levels) c.args.end consumes c.loop-rest.rest.now c.in_ok-rest.rest.now c.in_ok-rest.ensures in
    let within : length c.loop-rest.rest.now ≤ c.args.end = c.loop-rest.invariant.0 in (
      omega arith,
      fault_goes_on (value_at c.args.levels) c.args.end consumes c.loop-rest.rest.now c.in_ok-rest.rest.now
          (elements (value_at c.args.levels) c.args.end c.args.body.now) long c.in_ok-rest.ensures c.loop-rest.invariant.1,
    )

pub check_items-returns : goal.check_items-returns
check_items-returns t c =
    sym (fault_is_done (value_at c.args.levels) c.args.end c.loop-rest.rest.now (elements (value_at c.args.levels) c.args.end c.args.body.now)
    (none_left c.loop-rest.rest.now _ c.is_empty.ensures c.loop-rest-test.false) c.loop-rest.invariant.1)

pub check_pair-returns-in_err-field-clause-checked : goal.check_pair-returns-in_err-field-clause-checked
check_pair-returns-in_err-field-clause-checked t c =
    let p = err_from_is_err_and c.from_residual.result c.from_residual.ensures.1 in
    rw (p.1, p.2) (named-unnamed (value_at c.args.levels) c.args.end c.args.octets.now c.in_err-field.field-0.0 c.in_err-field.ensures.read)

pub check_pair-returns-in_err-after-clause-checked : goal.check_pair-returns-in_err-after-clause-checked
check_pair-returns-in_err-after-clause-checked t c =
    let p = err_from_is_err_and c.from_residual-in_err-after.result c.from_residual-in_err-after.ensures.1 in
    rw (p.1, p.2) (named-skipped (value_at c.args.levels) c.args.end c.args.octets.now _ c.in_ok-field.field.now c.in_ok-field.ensures.read ∙ c.in_err-after.ensures)

-- the octets after a pair
after_pair : (levels end : ℕ) (octets name field after : List ℕ) → name_at end octets ≡ Ok (name, field) → skipped (value_at levels end field) ≡ Ok after → skipped (named (value_at levels) end octets) ≡ Ok after
after_pair levels end octets name field after first is = named-skipped (value_at levels) end octets name field first ∙ is

pub check_pair-returns : goal.check_pair-returns
check_pair-returns t c =
    let octets = c.args.octets.now in
    let after = c.in_ok-after.after.now in
    let consumes = pair-consumes c.args.levels c.args.end in
    let is = after_pair c.args.levels c.args.end octets _ c.in_ok-field.field.now after c.in_ok-field.ensures.read c.in_ok-after.ensures in
    record {
      checked = is ∙ ap (λ (after : List ℕ). Ok after) (skipped-last (named (value_at c.args.levels)) c.args.end consumes octets after is);
      within = omega (arith, skipped-shorter (named (value_at c.args.levels)) c.args.end consumes octets after is);
    }

pub check_pairs-returns-in_err-left-in-None : goal.check_pairs-returns-in_err-left-in-None
check_pairs-returns-in_err-left-in-None t c =
    let p = err_from_is_err_and c.from_residual.result c.from_residual.ensures.1 in
    let long = some_left c.loop-rest.rest.now _ c.is_empty.ensures c.loop-rest-test.true in
    rw (p.1, p.2) (sym (fault_ends (named (value_at c.args.levels)) c.args.end (pair-consumes c.args.levels c.args.end) c.in_err-left-in-None.field-0.0 c.loop-rest.rest.now
    (elements (named (value_at c.args.levels)) c.args.end c.args.body.now) long c.in_err-left-in-None.ensures.checked c.loop-rest.invariant.1))

-- what the loop over pairs keeps, after one of them
past_pair : (levels end : ℕ) (body octets after : List ℕ) → 0 < length octets → length octets ≤ end → skipped (named (value_at levels) end octets) ≡ Ok after
    → fault_in (elements (named (value_at levels)) end octets) ≡ fault_in (elements (named (value_at levels)) end body)
    → (length after ≤ end) × (fault_in (elements (named (value_at levels)) end after) ≡ fault_in (elements (named (value_at levels)) end body))
past_pair levels end body octets after long fits is so_far =
    let consumes = pair-consumes levels end in (
      omega (arith, skipped-shorter (named (value_at levels)) end consumes octets after is),
      fault_goes_on (named (value_at levels)) end consumes octets after (elements (named (value_at levels)) end body) long is so_far,
    )

pub check_pairs-loop-rest-smaller-in-Some : goal.check_pairs-loop-rest-smaller-in-Some
check_pairs-loop-rest-smaller-in-Some t c =
    skipped-shorter (named (value_at c.args.levels)) c.args.end (pair-consumes c.args.levels c.args.end) c.loop-rest.rest.now c.in-Some.after.now (c.in-Some.ensures c.args.levels c.args.end)

pub check_pairs-loop-rest-preserved-in-Some : goal.check_pairs-loop-rest-preserved-in-Some
check_pairs-loop-rest-preserved-in-Some t c =
    let long = some_left c.loop-rest.rest.now _ c.is_empty.ensures c.loop-rest-test.true in
    past_pair c.args.levels c.args.end c.args.body.now c.loop-rest.rest.now c.in-Some.after.now long c.loop-rest.invariant.0 (c.in-Some.ensures c.args.levels c.args.end) c.loop-rest.invariant.1

pub check_pairs-loop-rest-smaller : goal.check_pairs-loop-rest-smaller
check_pairs-loop-rest-smaller t c =
    let rest = c.loop-rest.rest.now in
    let place = length rest - c.in_ok-left-in-None.left in
    rw (take_rest rest place) (skipped-shorter (named (value_at c.args.levels)) c.args.end (pair-consumes c.args.levels c.args.end) rest (drop place rest) c.in_ok-left-in-None.ensures.checked)

pub check_pairs-loop-rest-preserved : goal.check_pairs-loop-rest-preserved
check_pairs-loop-rest-preserved t c =
    let rest = c.loop-rest.rest.now in
    let place = length rest - c.in_ok-left-in-None.left in
    let long = some_left rest _ c.is_empty.ensures c.loop-rest-test.true in
    rw (take_rest rest place) (past_pair c.args.levels c.args.end c.args.body.now rest (drop place rest) long c.loop-rest.invariant.0 c.in_ok-left-in-None.ensures.checked c.loop-rest.invariant.1)

pub check_pairs-returns : goal.check_pairs-returns
check_pairs-returns t c =
    sym (fault_is_done (named (value_at c.args.levels)) c.args.end c.loop-rest.rest.now (elements (named (value_at c.args.levels)) c.args.end c.args.body.now)
    (none_left c.loop-rest.rest.now _ c.is_empty.ensures c.loop-rest-test.false) c.loop-rest.invariant.1)
