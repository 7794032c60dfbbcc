-- Each clause is a lemma on what is said.
use Rattle.amqp_model.proofs.TracedSaying.{says-method, says-message, taken-says-nothing, says-ask}
use Rattle.amqp_model.proofs.traces.messages_are_said.Goals as goal

pub returns-clause-method : goal.returns-clause-method
returns-clause-method c = says-method

pub returns-clause-message : goal.returns-clause-message
returns-clause-message c = says-message

pub returns-clause-taken : goal.returns-clause-taken
returns-clause-taken c = taken-says-nothing

pub returns-clause-ask : goal.returns-clause-ask
returns-clause-ask c = says-ask
