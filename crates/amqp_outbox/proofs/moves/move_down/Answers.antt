use Rattle.std.proofs.Common.{arith}
use Rattle.amqp_outbox.proofs.OutboxLists.{copied_down}
use Rattle.amqp_outbox.proofs.moves.move_down.Goals as goal

pub returns : goal.returns
returns c =
    copied_down c.args.octets.now.items c.copy_within.new.self.items c.copy_within-2.new.self.items c.copy_within-3.new.self.items c.truncate.new.self.items c.args.from c.args.place c.args.at c.args.count c.len-length.result
    (omega arith) c.requires.room c.requires.order c.requires.place (omega arith) c.copy_within.ensures.items c.copy_within-2.ensures.items c.copy_within-3.ensures.items c.truncate.ensures.items
