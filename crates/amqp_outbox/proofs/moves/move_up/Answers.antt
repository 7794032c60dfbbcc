use Rattle.std.proofs.Common.{length, sym, ap, ◌∙◌}
use Rattle.amqp_outbox.proofs.OutboxLists.{rotated}
use Rattle.amqp_outbox.proofs.moves.move_up.Goals as goal

pub returns : goal.returns
returns g c =
    rotated _ _ _ _ _ _ _ c.as_mut_slice.ensures.value (sym c.as_mut_slice.ensures.len ∙ ap length c.as_mut_slice.ensures.value) c.requires.room c.requires.end c.rotate_right.ensures.after
