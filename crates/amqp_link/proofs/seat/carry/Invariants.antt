use Rattle.std.proofs.Common.{◌≡◌, ◌≤◌, ◌-◌, false, length}
use Rattle.amqp_link.specs.Joined.{IsJoinedTo}
use Rattle.amqp_link.specs.SeatSteps.{Carries, to_write}
use Rattle.amqp_link.specs.SeatView.{seat_view}
use Rattle.amqp_link.proofs.seat.carry.Given as goal

-- so much was carried, the two are joined, and what is left to carry waits
abbrev pub invariant-loop-carried : goal.invariant-loop-carried
invariant-loop-carried g l = record {
  within : l.carried ≤ l.octets;
  carries : Carries l.octets (seat_view l.initial.writer) (seat_view l.initial.reader) l.carried (seat_view l.writer) (seat_view l.reader);
  joined : ∥ IsJoinedTo g.R.Role.role (seat_view l.reader) (seat_view l.writer) ∥₁;
  there : (seat_view l.reader).dropped ≡ false;
  waits : l.octets - l.carried ≤ length (to_write (seat_view l.writer));
}

abbrev pub decreases-loop-carried : goal.decreases-loop-carried
decreases-loop-carried g l = l.octets - l.carried
