-- The clause is a lemma on what an end answers.
use Rattle.amqp_model.proofs.AnswerWords.{only-open-is-due}
use Rattle.amqp_model.proofs.answers.replies_are_due_where_open.Goals as goal

pub returns : goal.returns
returns c = only-open-is-due
