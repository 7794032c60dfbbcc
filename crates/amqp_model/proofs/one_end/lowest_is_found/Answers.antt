-- The clause is a lemma on numbers.
use Rattle.amqp_model.proofs.Lowest.{finds-lowest}
use Rattle.amqp_model.proofs.one_end.lowest_is_found.Goals as goal

pub returns : goal.returns
returns c = finds-lowest
