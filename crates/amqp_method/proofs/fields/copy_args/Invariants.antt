use Rattle.std.proofs.Common.{◌≡◌, take}
use Rattle.amqp_method.specs.Views.{args_view}
use Rattle.amqp_method.proofs.fields.copy_args.Given as goal

abbrev pub invariant-loop-arg : goal.invariant-loop-arg
invariant-loop-arg l = args_view l.copies.items ≡ args_view (take l.arg-index l.arg-items)
