-- Each clause is a lemma on requests and replies.
use Rattle.amqp_model.proofs.TurnLaws.{keeps-unanswered, due-is-first}
use Rattle.amqp_model.proofs.replies.unanswered_are_kept.Goals as goal

pub returns-clause-kept : goal.returns-clause-kept
returns-clause-kept c = keeps-unanswered

pub returns-clause-due : goal.returns-clause-due
returns-clause-due c = due-is-first
