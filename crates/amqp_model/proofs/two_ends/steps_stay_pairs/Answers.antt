-- Each clause is a lemma on pairs.
use Rattle.amqp_model.proofs.Pairing.{new-ends-pair, step-stays-pair}
use Rattle.amqp_model.proofs.two_ends.steps_stay_pairs.Goals as goal

pub returns-clause-new : goal.returns-clause-new
returns-clause-new c = new-ends-pair

pub returns-clause-step : goal.returns-clause-step
returns-clause-step c = step-stays-pair
