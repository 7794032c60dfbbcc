-- The clause is a lemma on octets.
use Rattle.amqp_model.proofs.BlamingOctets.{feed-tells}
use Rattle.amqp_model.proofs.blame.pieces_tell_blame.Goals as goal

pub returns : goal.returns
returns c = feed-tells
