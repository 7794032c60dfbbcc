use Rattle.std.proofs.Common.{◌≡◌, ◌+◌, ◌≤◌, ◌++◌, length, map, take, drop}
use Rattle.amqp_method.specs.MethodRefs.{args_left}
use Rattle.amqp_calls.specs.Values.{argument_there, all_there}
use Rattle.amqp_calls.proofs.codec.methods.fill.Given as goal

abbrev pub invariant-loop-arg : goal.invariant-loop-arg
invariant-loop-arg l =
    (l.count ≤ length l.fields)
    × (length l.fields ≡ length l.initial.fields)
    × (l.count + length (args_left l.left) ≡ length (args_left l.args))
    × (map argument_there (take l.count l.fields) ++ all_there (args_left l.left) ≡ all_there (args_left l.args))
    × (drop l.count l.fields ≡ drop l.count l.initial.fields)

abbrev pub decreases-loop-arg : goal.decreases-loop-arg
decreases-loop-arg l = length (args_left l.left)
