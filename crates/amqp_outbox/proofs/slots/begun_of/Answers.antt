use Rattle.std.proofs.Common.{arith, take}
use Rattle.std.proofs.lemmas.List.{length-take-le}
use Rattle.amqp_outbox.specs.OutboxSlots.{slots_in}
use Rattle.amqp_outbox.proofs.OutboxLaps.{laps_last-most}
use Rattle.amqp_outbox.proofs.OutboxSlots.{begun-stops}
use Rattle.amqp_outbox.proofs.OutboxWaiting.{length-most, count-slots, begun-next, begun_on-next, lap-next}
use Rattle.amqp_outbox.proofs.slots.begun_of.Goals as goal

pub returns-then-octets-begun-clause-frames : goal.returns-then-octets-begun-clause-frames
returns-then-octets-begun-clause-frames c = begun-stops _ _ _ _ _ _ _ c.if-octets-begun.true c.loop-waiting.invariant.0

pub overflow_add-begun-in-loop-waiting : goal.overflow_add-begun-in-loop-waiting
overflow_add-begun-in-loop-waiting c =
    let h = length-most _ _ _ _ _ c.loop-waiting-test.true c.loop-waiting.invariant.0.passed_is c.length.ensures in
    omega arith

pub lap_after-requires : goal.lap_after-requires
lap_after-requires c =
    let a = laps_last-most c.args.lap c.args.last (take c.loop-waiting.waiting-index (slots_in c.args.row.now)) in
    let n = count-slots c.args.row.now in
    let b = length-take-le c.loop-waiting.waiting-index (slots_in c.args.row.now) (omega arith) in
    let d = c.loop-waiting.invariant.1.0 in
    omega arith

pub loop-waiting-preserved : goal.loop-waiting-preserved
loop-waiting-preserved c = (
  rw (c.length.ensures, c.last_after.ensures) (begun-next _ _ _ _ _ _ _ _ c.loop-waiting-test.true c.if-octets-begun.false c.loop-waiting.invariant.0),
  (
    lap-next c.args.lap c.args.last _ _ _ _ c.args.row.now _ c.loop-waiting-test.true c.loop-waiting.invariant.1.0 c.loop-waiting.invariant.0.now_is c.lap_after.ensures,
    begun_on-next c.args.begun_on c.args.row.now _ _ c.loop-waiting-test.true,
  ),
)
