-- The clause is a lemma on pairs.
use Rattle.amqp_model.proofs.Sent.{sent-is-acted-or-coming}
use Rattle.amqp_model.proofs.two_ends.items_in_flight.Goals as goal

pub returns : goal.returns
returns c = sent-is-acted-or-coming
