-- The clause is a lemma on histories.
use Rattle.amqp_model.proofs.Standing.{answers-stand}
use Rattle.amqp_model.proofs.one_end.answers_are_of_history.Goals as goal

pub returns : goal.returns
returns c = answers-stand
