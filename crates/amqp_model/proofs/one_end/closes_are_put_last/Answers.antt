-- Each clause is a lemma on histories.
use Rattle.amqp_model.proofs.PutLast.{closes-put-last, octets-put-as}
use Rattle.amqp_model.proofs.one_end.closes_are_put_last.Goals as goal

pub returns-clause-frames : goal.returns-clause-frames
returns-clause-frames c = closes-put-last

pub returns-clause-octets : goal.returns-clause-octets
returns-clause-octets c = octets-put-as
