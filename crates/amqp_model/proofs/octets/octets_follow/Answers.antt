-- Each clause is a lemma on an end and its history.
use Rattle.amqp_model.proofs.OctetSteps.{octet-follows, feed-follows}
use Rattle.amqp_model.proofs.OctetAsks.{new-stands, accepted-follows, refused-stays, wrote-follows, failed-writes}
use Rattle.amqp_model.proofs.octets.octets_follow.Goals as goal

pub returns : goal.returns
returns c =
    record {
      new = new-stands;
      octet = octet-follows c.written_reads_back.ensures.method;
      feed = feed-follows c.written_reads_back.ensures.method;
      accepted = accepted-follows;
      refused = refused-stays;
      wrote = wrote-follows;
      wrote_failed = failed-writes;
    }
