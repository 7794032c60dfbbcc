-- Each clause is a lemma on runs.
use Rattle.amqp_model.proofs.Laws.{sides_agree, takes_prefix}
use Rattle.amqp_model.proofs.lives.sides_agree.Goals as goal

pub returns-clause-lives : goal.returns-clause-lives
returns-clause-lives c = sides_agree

pub returns-clause-notes : goal.returns-clause-notes
returns-clause-notes c = takes_prefix
