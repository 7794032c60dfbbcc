use Rattle.std.proofs.Common.{◌++◌, ap, ◌∙◌, arith}
use Rattle.std.proofs.lemmas.Result.{on_ok_weaker}
use Rattle.amqp_method.specs.HeaderView.{properties_view}
use Rattle.amqp_method.specs.Properties.{header}
use Rattle.amqp_model.specs.Wire.Methods.{plain_header}
use Rattle.amqp_outbox.specs.OutboxFrames.{header_frame}
use Rattle.amqp_outbox.proofs.OutboxFrames.{finished-is}
use Rattle.amqp_outbox.proofs.ReadLemmas.{header_reads_back}
use Rattle.amqp_outbox.proofs.staging.append_header.Goals as goal

pub returns-in-Ok-clause-ok : goal.returns-in-Ok-clause-ok
unfolding plain_header
returns-in-Ok-clause-ok c =
    let payload = plain_header (header c.args.body_size (properties_view c.args.properties.now)) in
    on_ok_weaker c.end_frame.result
    (finished-is (header_frame c.args.channel (header c.args.body_size (properties_view c.args.properties.now))) c.args.octets.now.items _ _ c.len-at.result (omega arith) (c.in-Ok.ensures.ok ∙ ap (λ xs. xs ++ payload) c.in_ok-start_frame.ensures.ok))
    c.end_frame.ensures.ok

pub returns-in-Ok-clause-reads_back : goal.returns-in-Ok-clause-reads_back
returns-in-Ok-clause-reads_back c =
    on_ok_weaker c.end_frame.result (λ e. header_reads_back (header c.args.body_size (properties_view c.args.properties.now)) c.encoded_is_read.ensures.header c.in-Ok.ensures.encoded) c.end_frame.ensures.ok
