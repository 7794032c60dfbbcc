-- The clauses are lemmas on counting.
use Rattle.amqp_model.proofs.Counting.{steps-lead, steps-fewest, steps-lowest}
use Rattle.amqp_model.proofs.arrangement.steps_are_counted.Goals as goal

pub returns-clause-lead : goal.returns-clause-lead
returns-clause-lead c = steps-lead

pub returns-clause-fewest : goal.returns-clause-fewest
returns-clause-fewest c = steps-fewest

pub returns-clause-lowest : goal.returns-clause-lowest
returns-clause-lowest c = steps-lowest
