-- Both are lemmas on payloads that are just one content.
use Rattle.amqp_model.proofs.ContentLemmas.{one-content, no-prefix}
use Rattle.amqp_model.proofs.contents.one_content.Goals as goal

pub returns-clause-unique : goal.returns-clause-unique
returns-clause-unique c = one-content

pub returns-clause-no_prefix : goal.returns-clause-no_prefix
returns-clause-no_prefix c = no-prefix
