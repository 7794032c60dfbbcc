-- Each clause is a lemma on a piece.
use Rattle.amqp_model.proofs.FeedingPieces.{feed-begins-opening, feed-ends-opening, feed-leaves-opening}
use Rattle.amqp_model.proofs.pieces.pieces_are_compared.Goals as goal

pub returns-clause-begins : goal.returns-clause-begins
returns-clause-begins c = feed-begins-opening

pub returns-clause-ends : goal.returns-clause-ends
returns-clause-ends c = feed-ends-opening

pub returns-clause-leaves : goal.returns-clause-leaves
returns-clause-leaves c = feed-leaves-opening
