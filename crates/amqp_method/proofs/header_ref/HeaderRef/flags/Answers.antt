use Rattle.amqp_method.proofs.HeaderRefs.{lent_properties}
use Rattle.amqp_method.proofs.header_ref.HeaderRef.flags.Goals as goal

pub returns : goal.returns
returns c = (lent_properties c.args.self.payload.now c.args.self.body_size c.args.self.flags c.args.self.below c.args.self.flagged c.args.self.reads).flags_are
