use Rattle.std.proofs.Common.{◌≡◌, ◌++◌, length}
use Rattle.amqp_method.specs.MethodRefs.{args_left}
use Rattle.amqp_method.specs.Views.{args_view}
use Rattle.amqp_method.proofs.args_ref.ArgsRef.own_into.Given as goal

abbrev pub invariant-loop-field : goal.invariant-loop-field
invariant-loop-field l = args_view l.args.items ++ args_left l.left ≡ args_left l.self

abbrev pub decreases-loop-field : goal.decreases-loop-field
decreases-loop-field l = length l.left.fields.now
