use Rattle.std.proofs.Common.{Some, refl, sym, subst}
use Rattle.amqp_outbox.specs.BodyToCome.{Goes}
use Rattle.amqp_handle.specs.declared.content.Content.{Content}
use Rattle.amqp_calls.specs.Contents.{PartBy}
use Rattle.amqp_calls.specs.Contents.WritesPart.{written}
use Rattle.amqp_calls.proofs.contents.write_part.Goals as goal

pub returns-in-Ok : goal.returns-in-Ok
returns-in-Ok c =
    let new : Content = record { writer = Some c.write.new.self; octets = c.write.new.octets } in
    subst (λ writer. PartBy writer c.args.content.now c.args.part.now 0 new) (sym c.in-Some.is)
    (written c.write.new.self refl refl
    (subst (λ before. Goes c.in-Some.writer before c.args.part.now c.write.new.self c.write.new.octets.items) c.clear.ensures.items c.in-Ok.ensures.written))
