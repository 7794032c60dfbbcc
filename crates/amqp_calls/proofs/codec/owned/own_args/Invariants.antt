use Rattle.std.proofs.Common.{◌≡◌, ◌-◌, ◌≤◌, length, map, take}
use Rattle.amqp_method.specs.Views.{args_view}
use Rattle.amqp_calls.specs.Values.{argument_there, all_there}
use Rattle.amqp_calls.proofs.codec.owned.own_args.Given as goal

abbrev pub invariant-loop-place : goal.invariant-loop-place
invariant-loop-place l =
    (l.place ≤ length l.values)
    × (map argument_there (take l.place l.values) ≡ all_there (args_view l.args.items))

abbrev pub decreases-loop-place : goal.decreases-loop-place
decreases-loop-place l = length l.values - l.place
