use Rattle.std.proofs.Common.{[], ◌∷◌, length, ap, ◌∙◌}
use Rattle.std.proofs.lemmas.Result.{on_ok_weaker}
use Rattle.amqp_method.specs.HeaderView.{properties_view}
use Rattle.amqp_core.specs.Asks.LentLetter.{lent_letter}
use Rattle.amqp_method.specs.Properties.{header}
use Rattle.amqp_outbox.specs.OutboxFrames.{header_frame}
use Rattle.amqp_outbox.specs.OutboxView.{with_staged}
use Rattle.amqp_core.proofs.PieceLemmas.{message_staged}
use Rattle.amqp_core.proofs.sending.stage_message.Goals as goal

pub returns-in_ok-reserve_parts-in-Some-clause-ok : goal.returns-in_ok-reserve_parts-in-Some-clause-ok
returns-in_ok-reserve_parts-in-Some-clause-ok c =
    let letter = lent_letter c.args.message in
    let head = header_frame c.args.channel (header (length c.in-Some.body.now) (properties_view c.in-Some.properties.now)) in
    let begun = c.reserve_parts.ensures.same ∙ (c.in_ok-stage_header-in-Some.ensures.ok ∙ ap (λ o. with_staged o (head ∷ []))
    c.in_ok-stage_method.ensures.ok) in
    on_ok_weaker c.stage_parts.result
    (message_staged c.args.outbox.now _ _ c.args.channel c.args.frame_max letter.call _ letter.properties _ letter.body _ c.method.ensures
    c.in-Some.ensures.0 c.in-Some.ensures.1 begun)
    c.stage_parts.ensures.ok
