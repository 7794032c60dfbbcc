use Rattle.std.proofs.Common.{◌≡◌, ◌≤◌, length, drop}
use Rattle.amqp_outbox.specs.LentFrames.{content_left}
use Rattle.amqp_outbox.proofs.lent.ContentFrames.wrote.Given as goal

abbrev pub invariant-loop-left : goal.invariant-loop-left
invariant-loop-left l = record {
  left : drop l.left (content_left l.self) ≡ drop l.fn.octets (content_left l.fn.self);
  within : l.left ≤ length (content_left l.self);
}

abbrev pub decreases-loop-left : goal.decreases-loop-left
decreases-loop-left l = l.left
