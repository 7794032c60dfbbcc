use Rattle.amqp_method.specs.MethodRefView.{lent_call}
use Rattle.amqp_method.proofs.MethodLemmas.{method_at-takes}
use Rattle.amqp_method.proofs.RefLemmas.{call_read}
use Rattle.amqp_method.proofs.method_ref.MethodRef.payload.Goals as goal

pub returns-clause-encodes : goal.returns-clause-encodes
returns-clause-encodes c = method_at-takes c.args.self.payload.now (lent_call c.args.self) c.args.self.below (call_read c.args.self.payload.now c.args.self.kind c.args.self.reads)

pub returns-clause-read : goal.returns-clause-read
returns-clause-read c = call_read c.args.self.payload.now c.args.self.kind c.args.self.reads
