-- The clause is a lemma on histories.
use Rattle.amqp_model.proofs.Following.{elsewhere}
use Rattle.amqp_model.proofs.one_end.others_stay.Goals as goal

pub returns : goal.returns
returns c = elsewhere
