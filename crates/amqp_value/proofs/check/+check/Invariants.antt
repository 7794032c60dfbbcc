use Rattle.std.proofs.Common.{◌≡◌, ◌≤◌, ◌+◌, ◌*◌, length}
use Rattle.amqp_value.specs.Checking.{fault_in}
use Rattle.amqp_value.specs.Reading.{elements, named, value_at}
use Rattle.amqp_value.proofs.check.+check.Given as goal

abbrev pub decreases-check_items : goal.decreases-check_items
decreases-check_items l = 3 * l.levels + 2

abbrev pub decreases-check_pairs : goal.decreases-check_pairs
decreases-check_pairs l = 3 * l.levels + 2

abbrev pub decreases-check_pair : goal.decreases-check_pair
decreases-check_pair l = 3 * l.levels + 1

abbrev pub decreases-check_value : goal.decreases-check_value
decreases-check_value l = 3 * l.levels

abbrev pub invariant-check_items-loop-rest : goal.invariant-check_items-loop-rest
invariant-check_items-loop-rest l =
    (length l.rest ≤ l.end) × (fault_in (elements (value_at l.levels) l.end l.rest) ≡ fault_in (elements (value_at l.levels) l.end l.body))

abbrev pub decreases-check_items-loop-rest : goal.decreases-check_items-loop-rest
decreases-check_items-loop-rest l = length l.rest

abbrev pub invariant-check_pairs-loop-rest : goal.invariant-check_pairs-loop-rest
invariant-check_pairs-loop-rest l =
    (length l.rest ≤ l.end) × (fault_in (elements (named (value_at l.levels)) l.end l.rest) ≡ fault_in (elements (named (value_at l.levels)) l.end l.body))

abbrev pub decreases-check_pairs-loop-rest : goal.decreases-check_pairs-loop-rest
decreases-check_pairs-loop-rest l = length l.rest
