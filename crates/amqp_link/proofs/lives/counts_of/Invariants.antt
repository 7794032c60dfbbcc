-- The items so far.
use Rattle.std.proofs.Common.{◌≡◌, map, take}
use Rattle.amqp_core.specs.Traced.Notes.{telling_view}
use Rattle.amqp_link.specs.TallyView as view
use Rattle.amqp_link.proofs.lives.counts_of.Given as goal

abbrev pub invariant-loop-telling : goal.invariant-loop-telling
invariant-loop-telling l = map (λ lives. lives.items) l.counts.items ≡ view.counts_of l.begun (map telling_view (take l.telling-index l.tellings))
