use Rattle.std.proofs.Common.{◌-◌}
use Rattle.amqp_outbox.proofs.PiecesSearch.{Counting}
use Rattle.amqp_outbox.proofs.queues.count_up_to.Given as goal

abbrev pub invariant-loop-low : goal.invariant-loop-low
invariant-loop-low l = Counting l.channel l.low l.high l.queues

abbrev pub decreases-loop-low : goal.decreases-loop-low
decreases-loop-low l = l.high - l.low
