use Rattle.std.proofs.Common.{◌≡◌, ◌≤◌, ◌+◌, ◌-◌, List, ◌++◌, length}
use Rattle.amqp_outbox.specs.OutboxWeaving.{places_of, waiting_of}
use Rattle.amqp_outbox.specs.declared.slots.Waiting.{Waiting}
use Rattle.amqp_outbox.proofs.Woven.{Weaving}
use Rattle.amqp_outbox.proofs.WovenSteps.{IsLeft, themselves}
use Rattle.amqp_outbox.proofs.weaving.weave_slots.Given as goal

abbrev pub invariant-loop-left : goal.invariant-loop-left
invariant-loop-left l = record {
  order : l.begun ≤ l.end;
  left_is : IsLeft l.coming l.left (l.end - l.begun) (l.arranged - l.begun);
  count : length l.slots.items ≡ length l.fn.slots.items;
  woven : (before row dropped after : List Waiting) → length before ≡ l.begun → l.begun + length row ≡ l.arranged → length dropped ≡ length l.coming
      → l.fn.slots.items ≡ before ++ (row ++ (dropped ++ after))
      → Weaving themselves before after (places_of l.coming) (waiting_of l.coming) row l.left (l.end - l.begun) l.end l.left l.slots.items;
}

abbrev pub decreases-loop-left : goal.decreases-loop-left
decreases-loop-left l = l.left
