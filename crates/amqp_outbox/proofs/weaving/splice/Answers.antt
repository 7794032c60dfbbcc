use Rattle.std.proofs.Common.{length, sym, ap, ◌∙◌}
use Rattle.amqp_outbox.proofs.Woven.{spliced}
use Rattle.amqp_outbox.proofs.weaving.splice.Goals as goal

pub returns-clause-after : goal.returns-clause-after
returns-clause-after g c =
    spliced _ _ _ _ _ _ _ _ _ c.as_mut_slice.ensures.value (sym c.as_mut_slice.ensures.len ∙ ap length c.as_mut_slice.ensures.value) c.requires.order c.requires.room c.requires.part c.copy_from_slice.ensures.after c.copy_within.ensures.items
