-- Each clause is a lemma on a history.
use Rattle.amqp_model.proofs.HeardBefore.{heard-reads, each-hears-its-own}
use Rattle.amqp_model.proofs.heard.heard_was_awaited.Goals as goal

pub returns-clause-reads : goal.returns-clause-reads
returns-clause-reads c = heard-reads

pub returns-clause-own : goal.returns-clause-own
returns-clause-own c = each-hears-its-own
