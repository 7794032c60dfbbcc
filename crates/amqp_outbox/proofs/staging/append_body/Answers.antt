use Rattle.std.proofs.Common.{◌++◌, ap, ◌∙◌, arith}
use Rattle.std.proofs.lemmas.Result.{on_ok_weaker}
use Rattle.amqp_outbox.specs.OutboxFrames.{body_frame}
use Rattle.amqp_outbox.proofs.OutboxFrames.{finished-is}
use Rattle.amqp_outbox.proofs.staging.append_body.Goals as goal

pub returns-clause-ok : goal.returns-clause-ok
returns-clause-ok c =
    on_ok_weaker c.end_frame.result
    (finished-is (body_frame c.args.channel c.args.part.now) c.args.octets.now.items _ _ c.len-at.result (omega arith) (c.in-Ok.ensures.items ∙ ap (λ xs. xs ++ c.args.part.now) c.in_ok-start_frame.ensures.ok))
    c.end_frame.ensures.ok
