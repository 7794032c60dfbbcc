-- The octets agree with what is left of the header.
use Rattle.amqp_core.proofs.OpeningLemmas.{goes_on, differs_there}
use Rattle.amqp_core.proofs.opening.going_on.Goals as goal

pub returns-clause-same : goal.returns-clause-same
returns-clause-same c = goes_on c.args.heard c.agreeing.result c.args.octets.now c.agreeing.ensures.same

pub returns-clause-differs : goal.returns-clause-differs
returns-clause-differs c = differs_there c.args.heard c.agreeing.result c.args.octets.now c.agreeing.ensures.differs
