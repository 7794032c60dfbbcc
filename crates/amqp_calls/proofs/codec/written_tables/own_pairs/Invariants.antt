use Rattle.std.proofs.Common.{◌≡◌, ◌-◌, ◌≤◌, length, map, take}
use Rattle.amqp_value.specs.View.{named_view}
use Rattle.amqp_calls.specs.Tables.{pair_there, named_there}
use Rattle.amqp_calls.proofs.codec.written_tables.own_pairs.Given as goal

abbrev pub invariant-loop-place : goal.invariant-loop-place
invariant-loop-place l =
    (l.place ≤ length l.pairs)
    × (map pair_there (take l.place l.pairs) ≡ named_there (map named_view l.named.items))

abbrev pub decreases-loop-place : goal.decreases-loop-place
decreases-loop-place l = length l.pairs - l.place
