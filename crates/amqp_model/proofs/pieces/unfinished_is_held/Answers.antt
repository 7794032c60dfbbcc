-- Each clause is a lemma on what is unfinished.
use Rattle.amqp_model.proofs.HoldingPieces.{new-holds, stands-holds, feed-holds, ask-holds, wrote-holds}
use Rattle.amqp_model.proofs.pieces.unfinished_is_held.Goals as goal

pub returns : goal.returns
returns c =
    record {
      new = new-holds;
      stands = stands-holds;
      feed = feed-holds;
      ask = ask-holds;
      wrote = wrote-holds;
    }
