use Rattle.std.proofs.Common.{drop}
use Rattle.amqp_method.specs.Lent.{lent_views}
use Rattle.amqp_method.proofs.PresentLemmas.{FlagsOn}
use Rattle.amqp_method.proofs.properties.flags_word.Given as goal

abbrev pub invariant-loop-property : goal.invariant-loop-property
invariant-loop-property l = FlagsOn l.flags l.property-index (lent_views (drop l.property-index l.properties)) (lent_views l.properties)
