-- Each clause is a lemma on pairs.
use Rattle.amqp_model.proofs.WellPutPairs.{puts-well, next-is-well-put}
use Rattle.amqp_model.proofs.agreement.frames_are_well_put.Goals as goal

pub returns-clause-put : goal.returns-clause-put
returns-clause-put c = puts-well c.written_reads_back.ensures.method

pub returns-clause-next : goal.returns-clause-next
returns-clause-next c = next-is-well-put c.written_reads_back.ensures.method
