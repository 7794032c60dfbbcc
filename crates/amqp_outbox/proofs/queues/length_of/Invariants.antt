use Rattle.std.proofs.Common.{◌≡◌, length, take}
use Rattle.amqp_frame.specs.Splitting.{stream}
use Rattle.amqp_outbox.specs.PiecesQueues.{frames_of}
use Rattle.amqp_outbox.proofs.queues.length_of.Given as goal

abbrev pub invariant-loop-at : goal.invariant-loop-at
invariant-loop-at l = l.total ≡ length (stream (frames_of (take l.at l.frames.items)))
