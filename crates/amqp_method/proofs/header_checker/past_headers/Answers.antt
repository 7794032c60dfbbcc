use Rattle.std.proofs.Common.{sym, ◌∙◌}
use Rattle.amqp_method.proofs.CommonProperties.{headers_past}
use Rattle.amqp_method.proofs.HeaderChecks.{not_there}
use Rattle.amqp_method.proofs.header_checker.past_headers.Goals as goal

pub returns-then-not-is_flagged-clause-read : goal.returns-then-not-is_flagged-clause-read
returns-then-not-is_flagged-clause-read c = λ end.
    let p = c.property_at-property in
    not_there 2 p.result.now.flag c.args.flags end c.args.octets.now p.ensures.flag (sym c.is_flagged.ensures ∙ c.if-not-is_flagged.true)

pub returns-in-Ok-clause-read : goal.returns-in-Ok-clause-read
returns-in-Ok-clause-read c = λ end.
    let p = c.property_at-property in
    headers_past p.result.now.flag c.args.flags end c.in-Ok.length c.args.octets.now c.split_at.result.1.now p.ensures.flag
    (sym c.is_flagged.ensures ∙ c.if-not-is_flagged.false) c.in-Ok.ensures.exact c.split_at.ensures.back
