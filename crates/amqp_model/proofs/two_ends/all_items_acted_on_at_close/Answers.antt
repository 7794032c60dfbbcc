-- Each clause is a lemma on pairs.
use Rattle.amqp_model.proofs.ConnectionClosed.{all-of-ended}
use Rattle.amqp_model.proofs.Sent.{all-at-close, all-at-connection_close}
use Rattle.amqp_model.proofs.two_ends.all_items_acted_on_at_close.Goals as goal

pub returns-clause-channel : goal.returns-clause-channel
returns-clause-channel c = all-at-close

pub returns-clause-connection : goal.returns-clause-connection
returns-clause-connection c = all-at-connection_close

pub returns-clause-ended : goal.returns-clause-ended
returns-clause-ended c = all-of-ended
