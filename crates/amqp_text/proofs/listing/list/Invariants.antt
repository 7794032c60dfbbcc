use Rattle.std.proofs.Common.{length}
use Rattle.amqp_text.proofs.ListingLemmas.{ListedSoFar}
use Rattle.amqp_text.proofs.listing.list.Given as goal

abbrev pub invariant-loop-rest : goal.invariant-loop-rest
invariant-loop-rest l = ListedSoFar l.fn.octets l.rest l.frames.items l.splitter

abbrev pub decreases-loop-rest : goal.decreases-loop-rest
decreases-loop-rest l = length l.rest
