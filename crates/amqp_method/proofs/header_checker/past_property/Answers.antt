use Rattle.std.proofs.Common.{sym, ◌∙◌}
use Rattle.std.proofs.lemmas.Result.{err_from_is_err_and}
use Rattle.amqp_method.proofs.HeaderChecks.{not_there, there_after, there_fault}
use Rattle.amqp_method.proofs.header_checker.past_property.Goals as goal

pub returns-then-not-is_flagged-clause-read : goal.returns-then-not-is_flagged-clause-read
returns-then-not-is_flagged-clause-read c =
    let p = c.property_at-property in
    not_there c.args.place p.result.now.flag c.args.flags c.args.end c.args.octets.now p.ensures.flag (sym c.is_flagged.ensures ∙ c.if-not-is_flagged.true)

pub returns-in_err-after-clause-read : goal.returns-in_err-after-clause-read
returns-in_err-after-clause-read c =
    let p = c.property_at-property in
    let e = err_from_is_err_and c.from_residual.result c.from_residual.ensures.1 in
    rw (e.1, e.2) (there_fault c.args.place p.result.now.flag c.args.flags c.args.end p.result.now.kind c.args.octets.now c.in_err-after.field-0.0 p.ensures.flag p.ensures.kind
    (sym c.is_flagged.ensures ∙ c.if-not-is_flagged.false) c.in_err-after.ensures.read)

pub returns-clause-read : goal.returns-clause-read
returns-clause-read c =
    let p = c.property_at-property in
    there_after c.args.place p.result.now.flag c.args.flags c.args.end c.in_ok-after.field-0-0 p.result.now.kind c.args.octets.now c.in_ok-after.after.now p.ensures.flag p.ensures.kind
    (sym c.is_flagged.ensures ∙ c.if-not-is_flagged.false) c.in_ok-after.ensures.read
