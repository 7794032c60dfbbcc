use Rattle.std.proofs.Common.{arith}
use Rattle.amqp_outbox.proofs.LentBraids.{length-left}
use Rattle.amqp_outbox.proofs.lent.ContentFrames.add_to.Goals as goal

pub returns : goal.returns
returns c = let a = length-left c.args.self.now c.args.self.now.cuts in omega arith
