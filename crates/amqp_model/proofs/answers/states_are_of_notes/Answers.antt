-- Each clause is a lemma on what an end answers.
use Rattle.amqp_model.proofs.AnswerWords.{state-is-of-notes, closed-is-free}
use Rattle.amqp_model.proofs.answers.states_are_of_notes.Goals as goal

pub returns-clause-open : goal.returns-clause-open
returns-clause-open c = state-is-of-notes

pub returns-clause-closed : goal.returns-clause-closed
returns-clause-closed c = closed-is-free
