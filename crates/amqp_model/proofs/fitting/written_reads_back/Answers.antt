-- Each clause is a lemma on what an end writes.
use Rattle.amqp_model.proofs.ReadBack.{method-reads, header-reads}
use Rattle.amqp_model.proofs.fitting.written_reads_back.Goals as goal

pub returns-clause-method : goal.returns-clause-method
returns-clause-method c = method-reads c.plain_is_encoded.ensures.method c.encoded_is_read.ensures.method

pub returns-clause-header : goal.returns-clause-header
returns-clause-header c = header-reads c.plain_is_encoded.ensures.header c.encoded_is_read.ensures.header
