-- Each clause is a lemma on runs.
use Rattle.amqp_model.proofs.Laws.{in_flight, sent_so_far}
use Rattle.amqp_model.proofs.lives.in_flight.Goals as goal

pub returns-clause-life : goal.returns-clause-life
returns-clause-life c = in_flight

pub returns-clause-sent : goal.returns-clause-sent
returns-clause-sent c = sent_so_far
