-- Each clause is a lemma on histories.
use Rattle.amqp_model.proofs.Lawfulness.{lawful-stands, step-follows, end-steps}
use Rattle.amqp_model.proofs.one_end.lawful_stands.Goals as goal

pub returns-clause-read : goal.returns-clause-read
returns-clause-read c = lawful-stands

pub returns-clause-step : goal.returns-clause-step
returns-clause-step c = step-follows

pub returns-clause-steps : goal.returns-clause-steps
returns-clause-steps c = end-steps
