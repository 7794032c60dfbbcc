use Rattle.std.proofs.Common.{◌≡◌, ◌+◌, List, length}
use Rattle.amqp_calls.specs.GatheredBatches.{Fed, Placed}
use Rattle.amqp_calls.proofs.ends.gathering.gather_frames.Given as goal

abbrev pub invariant-loop-count : goal.invariant-loop-count
invariant-loop-count g l =
    (l.fed.taken + length l.rest ≡ length l.piece)
    × (feds : List Fed)
    × Placed (length l.piece) l.initial.end l.initial.gathering l.piece l.initial.places feds l.end l.gathering l.rest l.gathering.places.items l.count l.places

abbrev pub decreases-loop-count : goal.decreases-loop-count
decreases-loop-count g l = length l.rest
