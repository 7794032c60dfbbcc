use Rattle.std.proofs.Common.{◌≡◌, ◌<◌, ◌≤◌, ◌+◌, ◌-◌, ◌^◌, List, length, map, take, All}
use Rattle.amqp_frame.specs.Frame.{Frame}
use Rattle.amqp_model.specs.Output.Arrangement.{IsArranged, HasChannel}
use Rattle.amqp_outbox.specs.OutboxSlots.{slot_of, slots_in}
use Rattle.amqp_outbox.specs.OutboxLaps.{laps_in}
use Rattle.amqp_outbox.specs.OutboxWeaving.{slots_of}
use Rattle.amqp_outbox.proofs.WovenRows.{Searching}
use Rattle.amqp_outbox.proofs.weaving.find_places.Given as goal

abbrev pub invariant-loop-waiting : goal.invariant-loop-waiting
invariant-loop-waiting l = record {
  count : length l.coming.items ≡ l.waiting-index;
  slots_are : slots_of l.coming.items ≡ take l.waiting-index (slots_in l.staged);
  within : l.from ≤ length l.row;
  left : l.now + (length l.row - l.from) + (length l.staged - l.waiting-index) + 1 < 2 ^ 64;
  found : (frames row : List Frame) → slots_in l.staged ≡ map slot_of frames → slots_in l.row ≡ map slot_of row → IsArranged l.last row → All HasChannel row → All HasChannel frames
      → Searching l.lap l.last l.channel l.coming.items l.from l.now l.then (take l.waiting-index frames) row (laps_in l.row);
}
