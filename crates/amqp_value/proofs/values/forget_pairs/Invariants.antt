use Rattle.std.proofs.Common.{vec_len}
use Rattle.amqp_value.proofs.values.forget_pairs.Given as goal

abbrev pub decreases-loop-pair : goal.decreases-loop-pair
decreases-loop-pair l = vec_len l.pairs
