-- Each clause is a lemma on alike ends.
use Rattle.amqp_model.proofs.AlikeVerdicts.{verdicts-alike, puts-alike}
use Rattle.amqp_model.proofs.AlikeEntries.{taking-leaves-alike, entries-leave-alike}
use Rattle.amqp_model.proofs.streaming.alike_ends_take_alike.Goals as goal

pub returns-clause-verdict : goal.returns-clause-verdict
returns-clause-verdict c = verdicts-alike

pub returns-clause-puts : goal.returns-clause-puts
returns-clause-puts c = puts-alike

pub returns-clause-taken : goal.returns-clause-taken
returns-clause-taken c = taking-leaves-alike

pub returns-clause-entry : goal.returns-clause-entry
returns-clause-entry c = entries-leave-alike
