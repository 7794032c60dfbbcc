-- Each clause is a lemma on runs.
use Rattle.amqp_model.proofs.Laws.{all_acted, all_acted_connection}
use Rattle.amqp_model.proofs.lives.all_acted_on_at_close.Goals as goal

pub returns-clause-channel : goal.returns-clause-channel
returns-clause-channel c = all_acted

pub returns-clause-connection : goal.returns-clause-connection
returns-clause-connection c = all_acted_connection
