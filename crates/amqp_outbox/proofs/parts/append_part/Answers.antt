use Rattle.std.proofs.Common.{◌++◌, ◌∷◌, [], take, ap, ◌∙◌}
use Rattle.std.proofs.lemmas.List.{length-take-le}
use Rattle.amqp_outbox.proofs.BodyParts.{part_appended}
use Rattle.amqp_outbox.proofs.parts.append_part.Goals as goal

pub returns-clause-octets : goal.returns-clause-octets
returns-clause-octets c =
    let part = take c.args.size c.args.chunks.now in
    c.push_reserved.ensures.items
    ∙ (ap (λ xs. xs ++ 206 ∷ []) c.move_into.ensures.octets
    ∙ part_appended c.args.channel c.args.size part c.args.octets.now.items c.append_start.new.octets.items
    (length-take-le c.args.size c.args.chunks.now c.requires.there) c.append_start.ensures.octets)
