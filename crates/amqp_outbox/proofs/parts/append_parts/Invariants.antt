use Rattle.std.proofs.Common.{◌≡◌, ◌+◌, ◌≤◌, ◌++◌, length, map, vec_len, vec_capacity}
use Rattle.amqp_frame.specs.Splitting.{stream}
use Rattle.amqp_outbox.specs.OutboxFrames.{body_frames}
use Rattle.amqp_outbox.specs.OutboxLaps.{laps_in, no_laps}
use Rattle.amqp_outbox.specs.OutboxSlots.{slot_of, slots_in}
use Rattle.amqp_outbox.proofs.parts.append_parts.Given as goal

abbrev pub invariant-loop-chunks : goal.invariant-loop-chunks
invariant-loop-chunks l = record {
  octets : l.octets.items ++ stream (body_frames l.channel l.room l.chunks)
      ≡ l.fn.octets.items ++ stream (body_frames l.channel l.room l.fn.chunks);
  slots : slots_in l.slots.items ++ map slot_of (body_frames l.channel l.room l.chunks)
      ≡ slots_in l.fn.slots.items ++ map slot_of (body_frames l.channel l.room l.fn.chunks);
  laps : laps_in l.slots.items ++ no_laps (body_frames l.channel l.room l.chunks)
      ≡ laps_in l.fn.slots.items ++ no_laps (body_frames l.channel l.room l.fn.chunks);
  room : vec_len l.octets + length (stream (body_frames l.channel l.room l.chunks)) ≤ vec_capacity l.octets;
  slots_room : vec_len l.slots + length (body_frames l.channel l.room l.chunks) ≤ vec_capacity l.slots;
}

abbrev pub decreases-loop-chunks : goal.decreases-loop-chunks
decreases-loop-chunks l = length l.chunks
