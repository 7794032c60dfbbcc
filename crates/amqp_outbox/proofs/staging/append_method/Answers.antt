use Rattle.std.proofs.Common.{◌++◌, ap, ◌∙◌, arith}
use Rattle.std.proofs.lemmas.Result.{on_ok_weaker}
use Rattle.amqp_method.specs.MethodView.{method_view}
use Rattle.amqp_model.specs.Wire.Methods.{plain_method}
use Rattle.amqp_model.specs.End.Closes.{method_frame}
use Rattle.amqp_outbox.proofs.OutboxFrames.{finished-is}
use Rattle.amqp_outbox.proofs.ReadLemmas.{method_reads_back}
use Rattle.amqp_outbox.proofs.staging.append_method.Goals as goal

pub returns-in-Ok-clause-ok : goal.returns-in-Ok-clause-ok
unfolding plain_method
returns-in-Ok-clause-ok c =
    let payload = plain_method (method_view c.args.method.now) in
    on_ok_weaker c.end_frame.result
    (finished-is (method_frame c.args.channel (method_view c.args.method.now)) c.args.octets.now.items _ _ c.len-at.result (omega arith) (c.in-Ok.ensures.ok ∙ ap (λ xs. xs ++ payload) c.in_ok-start_frame.ensures.ok))
    c.end_frame.ensures.ok

pub returns-in-Ok-clause-reads_back : goal.returns-in-Ok-clause-reads_back
returns-in-Ok-clause-reads_back c =
    on_ok_weaker c.end_frame.result (λ e. method_reads_back (method_view c.args.method.now) c.encoded_is_read.ensures.method c.in-Ok.ensures.encoded) c.end_frame.ensures.ok
