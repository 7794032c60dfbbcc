-- Each clause is a lemma on alike ends.
use Rattle.amqp_model.proofs.AlikeAsks.{asks-alike, answers-alike}
use Rattle.amqp_model.proofs.AlikeEntries.{putting-leaves-alike}
use Rattle.amqp_model.proofs.streaming.alike_ends_ask_alike.Goals as goal

pub returns-clause-answer : goal.returns-clause-answer
returns-clause-answer c = asks-alike

pub returns-clause-put : goal.returns-clause-put
returns-clause-put c = putting-leaves-alike

pub returns-clause-queries : goal.returns-clause-queries
returns-clause-queries c = answers-alike
