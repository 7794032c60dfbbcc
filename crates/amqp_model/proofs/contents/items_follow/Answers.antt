-- Each clause is a lemma on lists of payloads.
use Rattle.amqp_model.proofs.ItemLemmas.{items-prefix, items-more, items-content, items-unfinished, items-apart}
use Rattle.amqp_model.proofs.ItemLemmas.{items-method}
use Rattle.amqp_model.proofs.contents.items_follow.Goals as goal

pub returns : goal.returns
returns c =
    record {
      prefix = items-prefix;
      one_more = items-more;
      content = items-content;
      unfinished = items-unfinished;
      later = items-apart;
      method = items-method;
    }
