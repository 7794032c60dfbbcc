-- Each clause is a lemma on octets.
use Rattle.amqp_model.proofs.OctetJudging.{judged-well, one-said}
use Rattle.amqp_model.proofs.octets.judged_is_said.Goals as goal

pub returns-clause-said : goal.returns-clause-said
returns-clause-said c = judged-well

pub returns-clause-one : goal.returns-clause-one
returns-clause-one c = one-said
