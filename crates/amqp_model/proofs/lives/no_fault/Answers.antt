-- The clause is a lemma on runs.
use Rattle.amqp_model.proofs.Laws.{no_fault}
use Rattle.amqp_model.proofs.lives.no_fault.Goals as goal

pub returns : goal.returns
returns c = no_fault
