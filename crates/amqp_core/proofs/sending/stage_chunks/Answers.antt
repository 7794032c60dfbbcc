use Rattle.std.proofs.Common.{ℕ, [], ◌∷◌, length, Some, refl, ap, ◌∙◌}
use Rattle.amqp_method.specs.HeaderView.{properties_view}
use Rattle.amqp_method.specs.MethodView.{method_view}
use Rattle.amqp_method.specs.Properties.{header}
use Rattle.amqp_outbox.specs.OutboxFrames.{header_frame}
use Rattle.amqp_outbox.specs.OutboxView.{Outgoing, with_staged}
use Rattle.amqp_core.proofs.PieceLemmas.{message_staged}
use Rattle.amqp_core.proofs.sending.stage_chunks.Goals as goal

pub returns-clause-ok : goal.returns-clause-ok
returns-clause-ok c =
    let method = method_view c.args.method.now in
    let properties = properties_view c.args.properties.now in
    let body = c.args.chunks.now in
    let begun = c.in-Ok.ensures.ok
    ∙ (ap (λ (n : ℕ). with_staged c.stage_method.new.outbox (header_frame c.args.channel (header n properties) ∷ [])) c.len.ensures
    ∙ ap (λ (o : Outgoing). with_staged o (header_frame c.args.channel (header (length body) properties) ∷ [])) c.in_ok-stage_method.ensures.ok) in
    message_staged c.args.outbox.now _ _ c.args.channel c.args.frame_max method method (Some properties) properties body body refl refl refl begun
    c.in-Ok-stage_chunks.ensures.ok
