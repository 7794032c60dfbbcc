-- Each clause is a lemma on what an end keeps.
use Rattle.amqp_model.proofs.Bounding.{gathered-within, others-free}
use Rattle.amqp_model.proofs.bounds.answers_are_bounded.Goals as goal

pub returns-clause-octets : goal.returns-clause-octets
returns-clause-octets c = gathered-within

pub returns-clause-states : goal.returns-clause-states
returns-clause-states c = others-free
