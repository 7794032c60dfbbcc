-- Each clause is a lemma on what an end writes.
use Rattle.amqp_model.proofs.ReadBackSizes.{start-fits_frame, owed-fit, close-fits, asked-fit}
use Rattle.amqp_model.proofs.fitting.frames_fit.Goals as goal

pub returns-clause-start : goal.returns-clause-start
returns-clause-start c = start-fits_frame

pub returns-clause-verdict : goal.returns-clause-verdict
returns-clause-verdict c = owed-fit

pub returns-clause-too_large : goal.returns-clause-too_large
returns-clause-too_large c = close-fits

pub returns-clause-asked : goal.returns-clause-asked
returns-clause-asked c = asked-fit
