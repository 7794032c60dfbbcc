-- Each clause is a lemma on a piece.
use Rattle.amqp_model.proofs.FeedingPieces.{feed-gives-frame, feed-waits, feed-finds-fault}
use Rattle.amqp_model.proofs.pieces.pieces_are_split.Goals as goal

pub returns-clause-frame : goal.returns-clause-frame
returns-clause-frame c = feed-gives-frame

pub returns-clause-rest : goal.returns-clause-rest
returns-clause-rest c = feed-waits

pub returns-clause-fault : goal.returns-clause-fault
returns-clause-fault c = feed-finds-fault
