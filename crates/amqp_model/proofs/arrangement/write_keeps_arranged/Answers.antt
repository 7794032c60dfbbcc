-- The clauses are lemmas on writes.
use Rattle.amqp_model.proofs.Writing.{writes, one-written, writes-none, writes-octets, writes-arranged, writes-ahead}
use Rattle.amqp_model.proofs.arrangement.write_keeps_arranged.Goals as goal

pub returns : goal.returns
returns c =
    record {
      leaves = writes;
      one = one-written;
      nothing = writes-none;
      octets = writes-octets;
      ahead = writes-ahead;
      arranged = writes-arranged;
    }
