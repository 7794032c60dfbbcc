-- Each clause is a lemma on verdicts.
use Rattle.amqp_model.proofs.VerdictEvents.{says-as-lives, tells-item-ended}
use Rattle.amqp_model.proofs.verdicts.verdict_names_event.Goals as goal

pub returns-clause-lives : goal.returns-clause-lives
returns-clause-lives c = says-as-lives

pub returns-clause-item : goal.returns-clause-item
returns-clause-item c = tells-item-ended
