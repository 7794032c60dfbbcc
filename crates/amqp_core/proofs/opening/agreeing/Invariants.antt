-- So many octets agree.
use Rattle.std.proofs.Common.{◌≡◌, ◌≤◌, ◌-◌, take, length}
use Rattle.amqp_core.proofs.opening.agreeing.Given as goal

abbrev pub invariant-loop-count : goal.invariant-loop-count
invariant-loop-count l = (l.count ≤ length l.octets) × (l.count ≤ length l.wanted) × (take l.count l.octets ≡ take l.count l.wanted)

abbrev pub decreases-loop-count : goal.decreases-loop-count
decreases-loop-count l = length l.octets - l.count
