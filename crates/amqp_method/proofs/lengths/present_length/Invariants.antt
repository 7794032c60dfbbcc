use Rattle.std.proofs.Common.{drop}
use Rattle.amqp_method.specs.Lent.{lent_views}
use Rattle.amqp_method.proofs.LengthLemmas.{PresentCounts}
use Rattle.amqp_method.proofs.lengths.present_length.Given as goal

abbrev pub invariant-loop-property : goal.invariant-loop-property
invariant-loop-property l = PresentCounts l.octets (lent_views (drop l.property-index l.properties)) (lent_views l.properties)
