use Rattle.std.proofs.Common.{◌≡◌, ◌+◌, length}
use Rattle.amqp_outbox.specs.OutboxView.{all_put}
use Rattle.amqp_outbox.proofs.send_queue.SendQueue.put.Given as goal

abbrev pub invariant-loop : goal.invariant-loop
invariant-loop l = (all_put l.self ≡ all_put l.initial.self) × (l.counter + length l.self.staged ≡ length l.initial.self.staged)
