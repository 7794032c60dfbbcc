-- Each clause is a lemma on histories.
use Rattle.amqp_model.proofs.Failing.{frame-fails, too-large-fails, any-fails, failed-is-read}
use Rattle.amqp_model.proofs.OctetHistories.{not-failed}
use Rattle.amqp_model.specs.History.Histories.{entries_on}
use Rattle.amqp_model.proofs.one_end.failed_follows.Goals as goal

pub returns : goal.returns
returns c =
    record {
      frame = frame-fails;
      too_large = too-large-fails;
      other = any-fails;
      read = failed-is-read;
      not_yet = λ role config end history stands. not-failed role (entries_on 0 history) end.phase stands.phase;
    }
