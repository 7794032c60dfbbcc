-- The clause is a lemma on encodings.
use Rattle.amqp_model.proofs.HeaderLengths.{one-header_length}
use Rattle.amqp_model.proofs.bounds.headers_have_one_length.Goals as goal

pub returns : goal.returns
returns c = one-header_length
