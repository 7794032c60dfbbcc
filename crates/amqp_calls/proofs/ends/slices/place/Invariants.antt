use Rattle.std.proofs.Common.{◌-◌, length}
use Rattle.amqp_outbox.specs.LentFrames.{content_left}
use Rattle.amqp_calls.proofs.PlacedPieces.{Placed}
use Rattle.amqp_calls.proofs.ends.slices.place.Given as goal

abbrev pub invariant-loop-placed : goal.invariant-loop-placed
invariant-loop-placed l = Placed (content_left l.frames) l.initial.pieces l.pieces l.placed (content_left l.left)

abbrev pub decreases-loop-placed : goal.decreases-loop-placed
decreases-loop-placed l = length l.initial.pieces - l.placed
