-- The clause is a lemma on requests and replies.
use Rattle.amqp_model.proofs.TurnLaws.{pair-answers-in-turn}
use Rattle.amqp_model.proofs.replies.replies_answer_requests.Goals as goal

pub returns : goal.returns
returns c = pair-answers-in-turn
