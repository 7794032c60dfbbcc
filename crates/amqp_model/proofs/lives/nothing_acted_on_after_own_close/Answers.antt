-- Each clause is a lemma, the first on runs and the second on all histories.
use Rattle.amqp_model.proofs.Closed.{nothing_after_close, nothing_after_leaving}
use Rattle.amqp_model.proofs.lives.nothing_acted_on_after_own_close.Goals as goal

pub returns-clause-channel : goal.returns-clause-channel
returns-clause-channel c = nothing_after_close

pub returns-clause-connection : goal.returns-clause-connection
returns-clause-connection c = nothing_after_leaving
