-- Each clause is a lemma on what a step keeps, or completes.
use Rattle.amqp_model.proofs.Streamed.{whole-is-came, kept-is-came}
use Rattle.amqp_model.proofs.streaming.parts_join.Goals as goal

pub returns-clause-whole : goal.returns-clause-whole
returns-clause-whole c = whole-is-came

pub returns-clause-so_far : goal.returns-clause-so_far
returns-clause-so_far c = kept-is-came
