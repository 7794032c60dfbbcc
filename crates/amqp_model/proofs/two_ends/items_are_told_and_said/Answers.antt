-- Each clause is a lemma on histories.
use Rattle.amqp_model.proofs.SentTelling.{tells-what-is-acted-on, fault-tells-nothing, says-what-is-sent}
use Rattle.amqp_model.proofs.SentTelling.{nothing-of-channel-0}
use Rattle.amqp_model.proofs.two_ends.items_are_told_and_said.Goals as goal

pub returns-clause-told : goal.returns-clause-told
returns-clause-told c = tells-what-is-acted-on

pub returns-clause-fault : goal.returns-clause-fault
returns-clause-fault c = fault-tells-nothing

pub returns-clause-said : goal.returns-clause-said
returns-clause-said c = says-what-is-sent

pub returns-clause-channel_0 : goal.returns-clause-channel_0
returns-clause-channel_0 c = nothing-of-channel-0
