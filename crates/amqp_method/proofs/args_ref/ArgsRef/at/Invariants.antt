use Rattle.std.proofs.Common.{◌≡◌, ◌-◌}
use Rattle.amqp_method.specs.MethodRefs.{args_left}
use Rattle.amqp_method.specs.Places.{argument_at}
use Rattle.amqp_method.proofs.args_ref.ArgsRef.at.Given as goal

abbrev pub invariant-loop : goal.invariant-loop
invariant-loop l = argument_at (l.place - l.counter) (args_left l.left) ≡ argument_at l.place (args_left l.self)
