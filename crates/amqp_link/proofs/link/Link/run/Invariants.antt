use Rattle.std.proofs.Common.{◌≤◌, ◌-◌, length, take}
use Rattle.amqp_link.specs.LinkSteps.{Runs}
use Rattle.amqp_link.specs.LinkView.{link_view}
use Rattle.amqp_link.proofs.link.Link.run.Given as goal

-- the steps up to this one were done, and so many of them refused
abbrev pub invariant-loop-index : goal.invariant-loop-index
invariant-loop-index l = record {
  within : l.index ≤ length l.steps;
  runs : Runs (link_view l.initial.self) (take l.index l.steps) l.refused (link_view l.self);
  fewer : l.refused ≤ l.index;
}

abbrev pub decreases-loop-index : goal.decreases-loop-index
decreases-loop-index l = length l.steps - l.index
