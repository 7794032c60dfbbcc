use Rattle.std.proofs.Common.{◌≡◌, ◌≤◌, length, map}
use Rattle.amqp_value.specs.Reading.{elements, named, value_at}
use Rattle.amqp_value.specs.View.{named_view}
use Rattle.amqp_value.proofs.Walking.{read_on}
use Rattle.amqp_value.proofs.one_walk.read_pairs.Given as goal

abbrev pub invariant-loop-rest : goal.invariant-loop-rest
invariant-loop-rest l =
    (length l.rest ≤ length l.body) × (read_on (map named_view l.pairs.items) l.rest ≡ elements (named (value_at 31)) 0 l.body)

abbrev pub decreases-loop-rest : goal.decreases-loop-rest
decreases-loop-rest l = length l.rest
