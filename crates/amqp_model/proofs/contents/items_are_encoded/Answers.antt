-- Both are lemmas on one more payload.
use Rattle.amqp_model.proofs.ItemLemmas.{tells-items, items-are-encoded}
use Rattle.amqp_model.proofs.contents.items_are_encoded.Goals as goal

pub returns-clause-item : goal.returns-clause-item
returns-clause-item c = tells-items

pub returns-clause-items : goal.returns-clause-items
returns-clause-items c = items-are-encoded
