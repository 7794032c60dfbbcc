use Rattle.std.proofs.Common.{length}
use Rattle.amqp_value.proofs.values.drop_pairs.Given as goal

abbrev pub decreases-loop-name : goal.decreases-loop-name
decreases-loop-name l = length l.pairs.items
