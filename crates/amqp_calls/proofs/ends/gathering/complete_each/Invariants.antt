use Rattle.std.proofs.Common.{◌≡◌, length, take, drop}
use Rattle.amqp_calls.specs.GatheredBatches.{CompletesAll}
use Rattle.amqp_calls.proofs.ends.gathering.complete_each.Given as goal

abbrev pub invariant-loop-at : goal.invariant-loop-at
invariant-loop-at l = record {
  each : CompletesAll l.parts 0 (take l.at l.initial.places) (take l.at l.places);
  others : drop l.at l.places ≡ drop l.at l.initial.places;
  as_many : length l.places ≡ length l.initial.places;
}
