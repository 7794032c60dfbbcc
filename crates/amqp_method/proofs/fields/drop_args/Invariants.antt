use Rattle.std.proofs.Common.{vec_len}
use Rattle.amqp_method.proofs.fields.drop_args.Given as goal

abbrev pub decreases-loop-arg : goal.decreases-loop-arg
decreases-loop-arg l = vec_len l.args
