use Rattle.std.proofs.Common.{ap, sym, ◌∙◌}
use Rattle.std.proofs.lemmas.List.{take_rest}
use Rattle.std.proofs.lemmas.Option.{IfSome_then}
use Rattle.amqp_value.specs.Checking.{skipped}
use Rattle.amqp_value.specs.Reading.{value_at}
use Rattle.amqp_value.proofs.Adding.{name-is}
use Rattle.amqp_value.proofs.Skipping.{named-skipped}
use Rattle.amqp_value.proofs.check.past_plain_pair.Goals as goal

pub returns : goal.returns
returns c =
    let n = c.from-length.result in
    let rest = c.in_ok-length.after.now in
    IfSome_then c.past_plain_value.result c.past_plain_value.ensures (λ after skips levels end.
    rw c.in_ok-length.ensures.cases.0
    (named-skipped (value_at levels) end _ _ _ (name-is end c.in_ok-length.length.now n rest c.from-length.ensures c.if-after-length.false)
    ∙ ap (λ field. skipped (value_at levels end field)) (sym (take_rest rest n))
    ∙ skips levels end))
