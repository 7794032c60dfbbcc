-- Each clause is a lemma on what an end writes.
use Rattle.amqp_model.proofs.ReadBack.{asked-reads}
use Rattle.amqp_model.proofs.fitting.asked_reads_back.Goals as goal

pub returns : goal.returns
returns c = asked-reads c.written_reads_back.ensures.method c.written_reads_back.ensures.header
