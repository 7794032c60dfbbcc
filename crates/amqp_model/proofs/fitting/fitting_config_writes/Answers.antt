-- Each clause is a lemma on what an end writes.
use Rattle.amqp_model.proofs.ReadBack.{config-writes, faultless-fits, fitting-faultless}
use Rattle.amqp_model.proofs.fitting.fitting_config_writes.Goals as goal

pub returns-clause-faultless : goal.returns-clause-faultless
returns-clause-faultless c = faultless-fits

pub returns-clause-no_fault : goal.returns-clause-no_fault
returns-clause-no_fault c = fitting-faultless

pub returns-clause-writes : goal.returns-clause-writes
returns-clause-writes c = config-writes c.written_reads_back.ensures.method
