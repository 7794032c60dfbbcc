-- The clause is a lemma on pairs.
use Rattle.amqp_model.proofs.Sent.{none-before-first}
use Rattle.amqp_model.proofs.two_ends.no_items_before_first_life.Goals as goal

pub returns : goal.returns
returns c = none-before-first
