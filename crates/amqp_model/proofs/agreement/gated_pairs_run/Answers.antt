-- The clause is a lemma on the histories.
use Rattle.amqp_model.proofs.GatedExample.{gated-examples-are-pairs}
use Rattle.amqp_model.proofs.agreement.gated_pairs_run.Goals as goal

pub returns : goal.returns
returns c = gated-examples-are-pairs c.written_reads_back.ensures.method
