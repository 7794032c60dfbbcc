use Rattle.std.proofs.Common.{◌≡◌, length, ap, sym, ◌∙◌, ◌==◌}
use Rattle.amqp_model.specs.Output.Arrangement.{is_leaving, names_leaving}
use Rattle.amqp_outbox.proofs.OutboxFrames.{payload-is, slot-is, leaves-at_0, leaves-above, leaves-other}
use Rattle.amqp_outbox.proofs.staging.slot_for.Goals as goal
use Rattle.amqp_outbox.proofs.staging.slot_for.Goals.{in-Method+then-channel-eq0, in-Method+else-channel-eq0, in-Header}

pub returns : goal.returns
returns c f kind channel frame =
    let payload = payload-is f c.args.frame.now frame in
    let leaving : c.match-kind.leaving ≡ is_leaving f =
    elim c.match-kind.branch [
      | in-Method+then-channel-eq0 w ↦ leaves-at_0 f _ (channel ∙ w.if-channel-eq0.true) (kind ∙ w.in-Method.is) (w.leaving-is ∙ (w.names_close.ensures ∙ ap names_leaving payload))
      | in-Method+else-channel-eq0 w ↦ leaves-above f _ (λ z. w.if-channel-eq0.false (sym channel ∙ z)) (w.leaving-is ∙ ap (λ n. n == 0) (sym channel))
      | in-Header w ↦ leaves-other f _ (rw kind w.in-Header.is) w.leaving-is
    ] in
    slot-is f _ _ _ _ (ap length payload) (sym channel) (sym kind) leaving
