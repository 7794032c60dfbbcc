-- Each clause is a lemma on requests and replies.
use Rattle.amqp_model.proofs.TurnLaws.{answers-in-turn, asks-one-at-a-time}
use Rattle.amqp_model.proofs.replies.replies_are_in_turn.Goals as goal

pub returns-clause-in_turn : goal.returns-clause-in_turn
returns-clause-in_turn c = answers-in-turn

pub returns-clause-one_at_a_time : goal.returns-clause-one_at_a_time
returns-clause-one_at_a_time c = asks-one-at-a-time
