-- Each clause is a lemma on the machine after any payloads.
use Rattle.amqp_model.proofs.GatheringLemmas.{nothing-after_method, gathers-afresh}
use Rattle.amqp_model.proofs.StepLemmas.{nothing-after_content}
use Rattle.amqp_model.proofs.contents.gathering_begins_afresh.Goals as goal

pub returns-clause-method : goal.returns-clause-method
returns-clause-method c = nothing-after_method

pub returns-clause-later : goal.returns-clause-later
returns-clause-later c = gathers-afresh

pub returns-clause-content : goal.returns-clause-content
returns-clause-content c = nothing-after_content
