-- Each clause is a lemma on what a verdict tells.
use Rattle.amqp_model.proofs.Lending.{each-frame-lends, last-is-whole}
use Rattle.amqp_model.proofs.streaming.each_frame_lends.Goals as goal

pub returns-clause-one : goal.returns-clause-one
returns-clause-one c = each-frame-lends

pub returns-clause-last : goal.returns-clause-last
returns-clause-last c = last-is-whole
