use Rattle.std.proofs.Common.{◌≡◌, ◌-◌, take, length, None}
use Rattle.amqp_value.specs.Pairs.{value_named}
use Rattle.amqp_value.specs.View.{pairs_view}
use Rattle.amqp_value.proofs.queries.place_of.Given as goal

abbrev pub invariant-loop-place : goal.invariant-loop-place
invariant-loop-place l = value_named l.name (pairs_view (take l.place l.pairs)) ≡ None

abbrev pub decreases-loop-place : goal.decreases-loop-place
decreases-loop-place l = length l.pairs - l.place
