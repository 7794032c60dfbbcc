use Rattle.std.proofs.Common.{length, refl, sym, ap, ◌∙◌}
use Rattle.amqp_outbox.proofs.WovenDown.{settled-is}
use Rattle.amqp_outbox.proofs.weaving.settle.Goals as goal

pub returns-clause-settled : goal.returns-clause-settled
returns-clause-settled c =
    (settled-is c.args.octets.now.items c.copy_within.new.self.items _ c.args.part.now _ _ c.args.from c.args.end c.args.room _
    c.requires.order c.requires.room c.requires.part c.requires.there c.copy_within.ensures.items c.as_mut_slice.ensures.value (sym c.as_mut_slice.ensures.len ∙ ap length c.as_mut_slice.ensures.value) c.copy_from_slice.ensures.after refl).settled

pub returns-clause-rest : goal.returns-clause-rest
returns-clause-rest c =
    (settled-is c.args.octets.now.items c.copy_within.new.self.items _ c.args.part.now _ _ c.args.from c.args.end c.args.room _
    c.requires.order c.requires.room c.requires.part c.requires.there c.copy_within.ensures.items c.as_mut_slice.ensures.value (sym c.as_mut_slice.ensures.len ∙ ap length c.as_mut_slice.ensures.value) c.copy_from_slice.ensures.after refl).rest
