use Rattle.std.proofs.Common.{◌≡◌, length}
use Rattle.amqp_method.specs.MethodRefs.{args_left}
use Rattle.amqp_method.proofs.args_ref.ArgsRef.next_arg.Given as goal

abbrev pub invariant-loop-reserved : goal.invariant-loop-reserved
invariant-loop-reserved l = args_left l.left ≡ args_left l.self

abbrev pub decreases-loop-reserved : goal.decreases-loop-reserved
decreases-loop-reserved l = length l.left.fields.now
