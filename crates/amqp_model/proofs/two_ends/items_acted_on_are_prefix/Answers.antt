-- The clause is a lemma on pairs.
use Rattle.amqp_model.proofs.Sent.{acts-on-prefix}
use Rattle.amqp_model.proofs.two_ends.items_acted_on_are_prefix.Goals as goal

pub returns : goal.returns
returns c = acts-on-prefix
