-- The clause is a lemma on what an end keeps of contents.
use Rattle.amqp_model.proofs.AmountBounds.{contents-within}
use Rattle.amqp_model.proofs.bounds.contents_are_bounded.Goals as goal

pub returns : goal.returns
returns c = contents-within
