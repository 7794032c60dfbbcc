use Rattle.std.proofs.Common.{◌≡◌, ◌-◌, length}
use Rattle.amqp_outbox.specs.PiecesRing.{queues_in, row_in, IsRound}
use Rattle.amqp_outbox.proofs.ring.Ring.next.Given as goal

abbrev pub invariant-loop-self : goal.invariant-loop-self
invariant-loop-self l = IsRound l.self × (row_in l.fn.self ≡ row_in l.self) × (l.count ≡ length (queues_in l.self))

abbrev pub decreases-loop-self : goal.decreases-loop-self
decreases-loop-self l = l.count - l.self.idle
