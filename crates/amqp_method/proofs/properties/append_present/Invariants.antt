use Rattle.std.proofs.Common.{drop}
use Rattle.amqp_method.specs.Lent.{lent_views}
use Rattle.amqp_method.proofs.PresentLemmas.{PresentOn}
use Rattle.amqp_method.proofs.properties.append_present.Given as goal

abbrev pub invariant-loop-property : goal.invariant-loop-property
invariant-loop-property l = PresentOn l.initial.out.items l.out.items (lent_views (drop l.property-index l.properties)) (lent_views l.properties)
