use Rattle.std.proofs.Common.{◌≤◌, ◌<◌, length, sym, ◌∙◌, arith}
use Rattle.std.proofs.lemmas.Result.{err_from_is_err_and}
use Rattle.amqp_method.proofs.HeaderChecks.{past_next, past_fault}
use Rattle.amqp_method.proofs.header_checker.past_properties.Goals as goal

pub returns-in_err-after-clause-read : goal.returns-in_err-after-clause-read
returns-in_err-after-clause-read c =
    let p = err_from_is_err_and c.from_residual.result c.from_residual.ensures.1 in
    let here : c.loop-place.place < 14 = omega (arith, c.loop-place-test.true, c.places_flagged-place-end.ensures.within) in
    rw (p.1, p.2) (sym c.loop-place.invariant.1 ∙ past_fault c.loop-place.place c.args.flags c.args.end c.loop-place.rest.now c.in_err-after.field-0.0 here c.in_err-after.ensures.read)

pub loop-place-preserved : goal.loop-place-preserved
loop-place-preserved c =
    let here : c.loop-place.place < 14 = omega (arith, c.loop-place-test.true, c.places_flagged-place-end.ensures.within) in
    let within : length c.in_ok-after.after.now ≤ length c.args.octets.now = omega (arith, c.loop-place.invariant.0, c.in_ok-after.ensures.within) in (
      within,
      sym (past_next c.loop-place.place c.args.flags c.args.end c.loop-place.rest.now c.in_ok-after.after.now here c.in_ok-after.ensures.read) ∙ c.loop-place.invariant.1,
    )
