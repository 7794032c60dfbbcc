use Rattle.std.proofs.Common.{◌≡◌, length, take}
use Rattle.amqp_frame.specs.Splitting.{stream}
use Rattle.amqp_model.specs.Output.Arrangement.{on}
use Rattle.amqp_outbox.specs.PiecesQueues.{on_channels}
use Rattle.amqp_outbox.proofs.queues.length_on.Given as goal

abbrev pub invariant-loop-queue : goal.invariant-loop-queue
invariant-loop-queue l = l.total ≡ length (stream (on l.channel (on_channels (take l.queue-index l.queues))))
