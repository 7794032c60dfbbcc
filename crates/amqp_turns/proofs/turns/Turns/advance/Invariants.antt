use Rattle.std.proofs.Common.{◌≡◌, ◌+◌, length}
use Rattle.amqp_turns.specs.Sends.{Advances}
use Rattle.amqp_turns.specs.TurnsView.{standing, waiting_in}
use Rattle.amqp_turns.proofs.turns.Turns.advance.Given as goal

-- so far messages were sent, each the oldest of those that waited
abbrev pub invariant-loop-sent : goal.invariant-loop-sent
invariant-loop-sent g l = record {
  advances : Advances (standing l.initial.self l.initial.end) (standing l.self l.end);
  count : l.sent + length (waiting_in l.self) ≡ length (waiting_in l.initial.self);
}

abbrev pub decreases-loop-sent : goal.decreases-loop-sent
decreases-loop-sent g l = length (waiting_in l.self)
