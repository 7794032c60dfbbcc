-- Each clause is a lemma on pairs.
use Rattle.amqp_model.proofs.Agreements.{goes-on-at-zero, runs-where-next-is-above, closed-has-taken-all}
use Rattle.amqp_model.proofs.agreement.connection_goes_on.Goals as goal

pub returns-clause-zero : goal.returns-clause-zero
returns-clause-zero c = goes-on-at-zero c.written_reads_back.ensures.method

pub returns-clause-above : goal.returns-clause-above
returns-clause-above c = runs-where-next-is-above c.written_reads_back.ensures.method

pub returns-clause-closed : goal.returns-clause-closed
returns-clause-closed c = closed-has-taken-all c.written_reads_back.ensures.method
