-- Each clause is a lemma on what an end answers.
use Rattle.amqp_model.proofs.AnswerWords.{gathered-is-under-way, none-is-gathered, only-open-gathers}
use Rattle.amqp_model.proofs.answers.octets_are_of_body.Goals as goal

pub returns-clause-under_way : goal.returns-clause-under_way
returns-clause-under_way c = gathered-is-under-way

pub returns-clause-none : goal.returns-clause-none
returns-clause-none c = none-is-gathered

pub returns-clause-elsewhere : goal.returns-clause-elsewhere
returns-clause-elsewhere c = only-open-gathers
