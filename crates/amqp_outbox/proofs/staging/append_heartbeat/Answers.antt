use Rattle.std.proofs.Common.{sym, ◌∙◌, arith, append-nil}
use Rattle.std.proofs.lemmas.Result.{on_ok_weaker}
use Rattle.amqp_model.specs.End.Controls.{heartbeat_frame}
use Rattle.amqp_outbox.proofs.OutboxFrames.{finished-is}
use Rattle.amqp_outbox.proofs.staging.append_heartbeat.Goals as goal

pub returns-clause-ok : goal.returns-clause-ok
returns-clause-ok c =
    on_ok_weaker c.end_frame.result
    (finished-is heartbeat_frame c.args.octets.now.items _ _ c.len-at.result (omega arith) (c.in_ok-start_frame.ensures.ok ∙ sym (append-nil _)))
    c.end_frame.ensures.ok
