use Rattle.std.proofs.Common.{length}
use Rattle.example_proxy.specs.Advancing.{Advances}
use Rattle.example_proxy.specs.ChannelView.{standing, waiting_in}
use Rattle.example_proxy.proofs.asking.Channel.advance.Given as goal

-- so far asks were accepted, each the oldest of those that waited
abbrev pub invariant-asks : goal.invariant-asks
invariant-asks g l = Advances (standing l.initial.self l.initial.end) (standing l.self l.end)

abbrev pub decreases-asks : goal.decreases-asks
decreases-asks g l = length (waiting_in l.self)
