-- The clause is a lemma on the two histories.
use Rattle.amqp_model.proofs.PairExample.{example-is-pair}
use Rattle.amqp_model.proofs.agreement.pairs_run.Goals as goal

pub returns : goal.returns
returns c = example-is-pair c.written_reads_back.ensures.method
