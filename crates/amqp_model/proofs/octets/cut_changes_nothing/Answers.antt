-- Each clause is a lemma on pieces.
use Rattle.amqp_model.proofs.OctetCuts.{cut-goes-on, cut-stops, feed-progresses, feed-within, feed-all, stays-closed}
use Rattle.amqp_model.proofs.OctetCuts.{stays-failed}
use Rattle.amqp_model.proofs.octets.cut_changes_nothing.Goals as goal

pub returns : goal.returns
returns c =
    record {
      goes_on = cut-goes-on;
      stops = cut-stops;
      progress = feed-progresses;
      within = feed-within;
      all = feed-all;
      closed = stays-closed;
      failed = stays-failed;
    }
