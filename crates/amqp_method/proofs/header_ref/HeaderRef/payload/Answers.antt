use Rattle.amqp_method.specs.HeaderRefView.{lent_header}
use Rattle.amqp_method.proofs.HeaderLemmas.{header_at-takes}
use Rattle.amqp_method.proofs.HeaderRefs.{header_read}
use Rattle.amqp_method.proofs.header_ref.HeaderRef.payload.Goals as goal

pub returns-clause-encodes : goal.returns-clause-encodes
returns-clause-encodes c = header_at-takes c.args.self.payload.now (lent_header c.args.self) c.args.self.below (header_read c.args.self.payload.now c.args.self.body_size c.args.self.reads)

pub returns-clause-read : goal.returns-clause-read
returns-clause-read c = header_read c.args.self.payload.now c.args.self.body_size c.args.self.reads
