use Rattle.std.proofs.Common.{sym, ◌∙◌}
use Rattle.amqp_method.proofs.HeaderRefs.{not_there}
use Rattle.amqp_method.proofs.header_ref.HeaderRef.at.Goals as goal

pub returns-then-not-is_flagged : goal.returns-then-not-is_flagged
returns-then-not-is_flagged c =
    let p = c.property_at in
    not_there c.args.self c.args.place p.result.now.flag p.ensures.flag c.requires (sym c.is_flagged.ensures ∙ c.if-not-is_flagged.true)
