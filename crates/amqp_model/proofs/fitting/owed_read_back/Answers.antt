-- Each clause is a lemma on what an end writes.
use Rattle.amqp_model.proofs.ReadBackOwed.{owed-read, close-reads, all-reads-back}
use Rattle.amqp_model.proofs.fitting.owed_read_back.Goals as goal

pub returns-clause-verdict : goal.returns-clause-verdict
returns-clause-verdict c = owed-read c.written_reads_back.ensures.method

pub returns-clause-too_large : goal.returns-clause-too_large
returns-clause-too_large c = close-reads c.written_reads_back.ensures.method

pub returns-clause-all : goal.returns-clause-all
returns-clause-all c = all-reads-back c.written_reads_back.ensures.method
