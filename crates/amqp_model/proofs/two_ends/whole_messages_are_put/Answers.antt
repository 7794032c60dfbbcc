-- Each clause is a lemma on histories.
use Rattle.amqp_model.proofs.KeptContents.{fits-what-is-kept}
use Rattle.amqp_model.proofs.WholeMessages.{puts-whole-messages, each-fits-next}
use Rattle.amqp_model.proofs.two_ends.whole_messages_are_put.Goals as goal

pub returns-clause-whole : goal.returns-clause-whole
returns-clause-whole c = puts-whole-messages

pub returns-clause-each : goal.returns-clause-each
returns-clause-each c = each-fits-next

pub returns-clause-taken : goal.returns-clause-taken
returns-clause-taken c = fits-what-is-kept
