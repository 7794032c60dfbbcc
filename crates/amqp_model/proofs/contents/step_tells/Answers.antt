-- Each clause is a lemma on one more payload.
use Rattle.amqp_model.proofs.StepLemmas.{tells-whole_lem, tells-misfits, goes-on-with}
use Rattle.amqp_model.proofs.contents.step_tells.Goals as goal

pub returns-clause-whole : goal.returns-clause-whole
returns-clause-whole c = tells-whole_lem

pub returns-clause-misfit : goal.returns-clause-misfit
returns-clause-misfit c = tells-misfits

pub returns-clause-goes_on : goal.returns-clause-goes_on
returns-clause-goes_on c = goes-on-with
