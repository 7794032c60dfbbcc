use Rattle.amqp_method.specs.HeaderRefs.{PropertiesLeft}
use Rattle.amqp_method.proofs.header_ref.HeaderRef.past_earlier.Given as goal

abbrev pub invariant-loop-earlier : goal.invariant-loop-earlier
invariant-loop-earlier l = PropertiesLeft l.self l.earlier l.rest
