use Rattle.std.proofs.Common.{◌≡◌, ℕ, List, ◌++◌, length, map}
use Rattle.amqp_frame.specs.Frame.{Frame}
use Rattle.amqp_frame.specs.Splitting.{stream}
use Rattle.amqp_outbox.specs.OutboxSlots.{slot_of, slots_in}
use Rattle.amqp_outbox.specs.OutboxWeaving.{places_of, slots_of}
use Rattle.amqp_outbox.proofs.Woven.{Weaving}
use Rattle.amqp_outbox.proofs.WovenSteps.{Octets}
use Rattle.amqp_outbox.proofs.weaving.weave_octets.Given as goal

abbrev pub invariant-loop-left : goal.invariant-loop-left
invariant-loop-left l = record {
  octets : Octets l.begun l.row l.coming l.row_end l.left l.end l.hole;
  count : length l.octets.items ≡ length l.fn.octets.items;
  woven : (before dropped after : List ℕ) (rows puts : List Frame) → slots_in l.row ≡ map slot_of rows → slots_of l.coming ≡ map slot_of puts → l.frames ≡ stream puts → length before ≡ l.begun → length dropped ≡ length l.frames
      → l.fn.octets.items ≡ before ++ (stream rows ++ (dropped ++ after))
      → Weaving stream before after (places_of l.coming) puts rows l.left l.row_end l.end l.hole l.octets.items;
}

abbrev pub decreases-loop-left : goal.decreases-loop-left
decreases-loop-left l = l.left
