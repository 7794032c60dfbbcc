-- Each clause is a lemma on pairs.
use Rattle.amqp_model.proofs.EndsAgree.{lives-agree, no-content-from-paused}
use Rattle.amqp_model.proofs.agreement.ends_agree_on_lives.Goals as goal

pub returns-clause-lives : goal.returns-clause-lives
returns-clause-lives c = lives-agree c.written_reads_back.ensures.method

pub returns-clause-pause : goal.returns-clause-pause
returns-clause-pause c = no-content-from-paused c.written_reads_back.ensures.method
