-- Turn by turn, what is asked for is carried.
use Rattle.std.proofs.Common.{◌≡◌, ◌≤◌, arith, subst}
use Rattle.amqp_link.specs.SeatSteps.{Carries, none, more}
use Rattle.amqp_link.specs.SeatView.{seat_view}
use Rattle.amqp_link.proofs.seat.carry.Goals as goal

pub loop-carried-init : goal.loop-carried-init
loop-carried-init g c =
    record {
      within = omega (arith);
      carries = none;
      joined = c.requires.joined;
      there = c.if-reader.false;
      waits = omega (arith, c.if-waiting-octets.false, c.waiting.ensures);
    }

pub loop-carried-preserved : goal.loop-carried-preserved
loop-carried-preserved g c =
    let so_far = c.loop-carried.invariant in
    let hands = c.in-Ok.ensures.hands in
    record {
      within = omega (arith, so_far.within, hands.within);
      carries = more so_far.carries hands;
      joined = c.in-Ok.ensures.joined;
      there = hands.is_there;
      waits = omega (arith, so_far.waits, so_far.within, hands.within, c.in-Ok.ensures.left);
    }

pub returns-clause-carries : goal.returns-clause-carries
returns-clause-carries g c =
    let so_far = c.loop-carried.invariant in
    let all : c.loop-carried.carried ≡ c.args.octets = omega (arith, so_far.within, c.loop-carried-test.false) in (
      c.if-reader.false,
      subst (λ n. c.args.octets ≤ n) c.waiting.ensures c.if-waiting-octets.false,
      subst (λ n. Carries c.args.octets (seat_view c.args.writer.now) (seat_view c.args.reader.now) n (seat_view c.loop-carried.writer) (seat_view c.loop-carried.reader)) all so_far.carries,
    )
