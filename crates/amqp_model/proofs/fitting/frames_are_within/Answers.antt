-- Each clause is a lemma on what an end writes.
use Rattle.amqp_model.proofs.ReadBackSizes.{owed-short, close-short, asked-are-within}
use Rattle.amqp_model.proofs.fitting.frames_are_within.Goals as goal

pub returns-clause-verdict : goal.returns-clause-verdict
returns-clause-verdict c = owed-short

pub returns-clause-too_large : goal.returns-clause-too_large
returns-clause-too_large c = close-short

pub returns-clause-asked : goal.returns-clause-asked
returns-clause-asked c = asked-are-within
