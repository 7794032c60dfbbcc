use Rattle.std.proofs.Common.{◌≡◌, ◌-◌, List, ℕ, ◌++◌, length, map, take, drop, vec_capacity}
use Rattle.amqp_frame.specs.Frame.{Frame}
use Rattle.amqp_frame.specs.Splitting.{stream}
use Rattle.amqp_outbox.specs.OutboxSlots.{slot_of, slots_in}
use Rattle.amqp_outbox.specs.OutboxWeaving.{places_of, slots_of}
use Rattle.amqp_outbox.proofs.WovenDown.{Down, Settling}
use Rattle.amqp_outbox.proofs.weaving.weave_down.Given as goal

abbrev pub invariant-loop-next : goal.invariant-loop-next
invariant-loop-next l = record {
  down : Down l.begun l.row l.coming l.next-index l.place l.from (length l.left);
  count : length l.octets.items ≡ length l.fn.octets.items;
  capacity : vec_capacity l.octets ≡ vec_capacity l.fn.octets;
  settling : (after : List ℕ) (rows puts : List Frame) → slots_in l.row ≡ map slot_of rows → slots_of l.coming ≡ map slot_of puts → l.frames ≡ stream puts
      → drop l.begun l.fn.octets.items ≡ stream rows ++ after
      → Settling (take (l.begun - length l.frames) l.fn.octets.items) after (places_of l.coming) puts rows l.next-index l.place l.from l.left l.octets.items;
}
