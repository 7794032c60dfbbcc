-- Each clause is a lemma on a history.
use Rattle.amqp_model.proofs.HeardBefore.{heard-begins, heard-follows, heard-stays, step-keeps-heard, hears-alike}
use Rattle.amqp_model.proofs.heard.heard_is_kept.Goals as goal

pub returns : goal.returns
returns c =
    record {
      begins = heard-begins;
      follows = heard-follows;
      stays = heard-stays;
      step = step-keeps-heard;
      alike = hears-alike;
    }
