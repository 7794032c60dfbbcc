-- Each clause is a lemma on runs.
use Rattle.amqp_model.proofs.PausedContents.{no_content, no_pause}
use Rattle.amqp_model.proofs.lives.no_content_while_paused.Goals as goal

pub returns-clause-counted : goal.returns-clause-counted
returns-clause-counted c = no_content

pub returns-clause-plain : goal.returns-clause-plain
returns-clause-plain c = no_pause
