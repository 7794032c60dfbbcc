use Rattle.std.proofs.Common.{◌≡◌, ◌<◌, []}
use Rattle.amqp_model.specs.Output.Outputs.{after_writing}
use Rattle.amqp_outbox.specs.PiecesWrites.{left_of}
use Rattle.amqp_outbox.proofs.send_queue.SendQueue.count_written.Given as goal

abbrev pub invariant-loop-left : goal.invariant-loop-left
invariant-loop-left l =
    (l.self.staged ≡ l.fn.self.staged) × (left_of l.left l.self.output ≡ after_writing l.fn.octets l.fn.self.output) × (0 < l.left → l.self.output.ahead ≡ [])

abbrev pub decreases-loop-left : goal.decreases-loop-left
decreases-loop-left l = l.left
