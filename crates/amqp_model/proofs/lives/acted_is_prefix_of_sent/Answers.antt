-- The clause is a lemma on runs.
use Rattle.amqp_model.proofs.Laws.{acts_prefix}
use Rattle.amqp_model.proofs.lives.acted_is_prefix_of_sent.Goals as goal

pub returns : goal.returns
returns c = acts_prefix
