use Rattle.amqp_method.proofs.HeaderRefs.{lent_properties, properties_lent}
use Rattle.amqp_method.proofs.header_ref.HeaderRef.properties.Goals as goal

pub split_at-requires : goal.split_at-requires
split_at-requires c =
    let h = c.args.self in
    (lent_properties h.payload.now h.body_size h.flags h.below h.flagged h.reads).long

pub returns : goal.returns
returns c = properties_lent c.args.self c.split_at.result.1.now c.split_at.ensures.back
