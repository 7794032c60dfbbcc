-- Each clause is a lemma on pairs and octets.
use Rattle.amqp_model.proofs.OctetsInFlight.{nothing-waits-for-closed}
use Rattle.amqp_model.proofs.agreement.nothing_waits_for_closed.Goals as goal

pub returns : goal.returns
returns c = nothing-waits-for-closed c.written_reads_back.ensures.method
