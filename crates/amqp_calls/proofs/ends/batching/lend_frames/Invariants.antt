use Rattle.std.proofs.Common.{◌≤◌, ◌-◌, length}
use Rattle.amqp_calls.proofs.LentPlaces.{Filled}
use Rattle.amqp_calls.proofs.ends.batching.lend_frames.Given as goal

abbrev pub invariant-loop-shown : goal.invariant-loop-shown
invariant-loop-shown g l =
    (length l.rest ≤ length l.piece)
    × Filled (length l.piece) l.initial.end l.piece l.initial.places l.places l.shown l.end l.rest

abbrev pub decreases-loop-shown : goal.decreases-loop-shown
decreases-loop-shown g l = length l.initial.places - l.shown
