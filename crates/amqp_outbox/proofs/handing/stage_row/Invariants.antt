use Rattle.std.proofs.Common.{◌≡◌, List, map, take, drop}
use Rattle.amqp_frame.specs.Frame.{Frame}
use Rattle.amqp_frame.specs.Splitting.{stream}
use Rattle.amqp_outbox.specs.OutboxSlots.{slot_of, slots_in}
use Rattle.amqp_outbox.specs.OutboxView.{with_staged}
use Rattle.amqp_outbox.proofs.handing.stage_row.Given as goal

abbrev pub invariant-loop-waiting : goal.invariant-loop-waiting
invariant-loop-waiting l = record {
  output : l.queue.output ≡ l.initial.queue.output;
  rest : (frames : List Frame) → slots_in l.row ≡ map slot_of frames → l.octets ≡ stream frames → l.rest ≡ stream (drop l.waiting-index frames);
  staged : (frames : List Frame) → slots_in l.row ≡ map slot_of frames → l.octets ≡ stream frames → l.queue ≡ with_staged l.initial.queue (take l.waiting-index frames);
}
