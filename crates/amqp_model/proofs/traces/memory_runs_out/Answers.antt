-- Each clause is a lemma on an end that ran out of memory.
use Rattle.amqp_model.proofs.RunsOut.{runs-out, ran-out-writes, ran-out-stays}
use Rattle.amqp_model.proofs.traces.memory_runs_out.Goals as goal

pub returns-clause-stands : goal.returns-clause-stands
returns-clause-stands c = runs-out

pub returns-clause-wrote : goal.returns-clause-wrote
returns-clause-wrote c = ran-out-writes

pub returns-clause-fed : goal.returns-clause-fed
returns-clause-fed c = ran-out-stays
