-- The clause is a lemma on the channels that an end keeps.
use Rattle.amqp_model.proofs.Numbering.{stands-numbered}
use Rattle.amqp_model.proofs.bounds.channels_are_numbered.Goals as goal

pub returns : goal.returns
returns c = stands-numbered
