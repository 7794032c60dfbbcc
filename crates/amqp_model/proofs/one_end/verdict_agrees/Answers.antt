-- The clause is a lemma on verdicts.
use Rattle.amqp_model.proofs.Pairing.{agrees-with-lives}
use Rattle.amqp_model.proofs.one_end.verdict_agrees.Goals as goal

pub returns : goal.returns
returns c = agrees-with-lives
