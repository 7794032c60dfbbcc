use Rattle.std.proofs.Common.{◌≡◌, length}
use Rattle.amqp_method.specs.Same.{same_arguments}
use Rattle.amqp_method.specs.MethodRefs.{args_left}
use Rattle.amqp_method.proofs.same.same_args.Given as goal

abbrev pub invariant-loop-arg : goal.invariant-loop-arg
invariant-loop-arg l = same_arguments (args_left l.left) (args_left l.beside) ≡ same_arguments (args_left l.args) (args_left l.other)

abbrev pub decreases-loop-arg : goal.decreases-loop-arg
decreases-loop-arg l = length (args_left l.left)
