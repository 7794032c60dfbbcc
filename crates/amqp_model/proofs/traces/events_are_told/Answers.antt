-- Each clause is a lemma on what is told.
use Rattle.amqp_model.proofs.TracedTelling.{tells-event, puts-tell-nothing}
use Rattle.amqp_model.proofs.traces.events_are_told.Goals as goal

pub returns-clause-event : goal.returns-clause-event
returns-clause-event c = tells-event

pub returns-clause-put : goal.returns-clause-put
returns-clause-put c = puts-tell-nothing
