-- Each clause is a lemma on pairs and octets.
use Rattle.amqp_model.proofs.OctetsInFlight.{finds-no-fault-with-octets, feed-stays-pair, grown-stays-pair}
use Rattle.amqp_model.proofs.agreement.no_fault_over_octets.Goals as goal

pub returns-clause-none : goal.returns-clause-none
returns-clause-none c = finds-no-fault-with-octets c.written_reads_back.ensures.method

pub returns-clause-pair : goal.returns-clause-pair
returns-clause-pair c = feed-stays-pair c.written_reads_back.ensures.method

pub returns-clause-grown : goal.returns-clause-grown
returns-clause-grown c = grown-stays-pair c.written_reads_back.ensures.method
