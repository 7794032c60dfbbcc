-- Each clause is a lemma on pairs.
use Rattle.amqp_model.proofs.Matching.{next-is-matched, takes-what-comes-next}
use Rattle.amqp_model.proofs.agreement.no_fault_over_frames.Goals as goal

pub returns-clause-matched : goal.returns-clause-matched
returns-clause-matched c = next-is-matched c.written_reads_back.ensures.method

pub returns-clause-takes : goal.returns-clause-takes
returns-clause-takes c = takes-what-comes-next c.written_reads_back.ensures.method
