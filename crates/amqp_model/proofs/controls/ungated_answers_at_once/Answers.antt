-- Each clause is a lemma on what is answered and settled.
use Rattle.amqp_model.proofs.ControlLaws.{ungated-answers, settles-heartbeat}
use Rattle.amqp_model.proofs.Ungated.{ungated-never-holds}
use Rattle.amqp_model.proofs.controls.ungated_answers_at_once.Goals as goal

pub returns-clause-answers : goal.returns-clause-answers
returns-clause-answers c = ungated-answers

pub returns-clause-heartbeat : goal.returns-clause-heartbeat
returns-clause-heartbeat c = settles-heartbeat

pub returns-clause-holds : goal.returns-clause-holds
returns-clause-holds c = ungated-never-holds
