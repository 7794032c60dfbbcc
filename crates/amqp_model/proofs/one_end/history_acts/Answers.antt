-- Each clause is a lemma on histories.
use Rattle.amqp_model.proofs.Taking.{takes-acts}
use Rattle.amqp_model.proofs.Asking.{asks-act}
use Rattle.amqp_model.proofs.Pairing.{pair-lawful, pair-runs}
use Rattle.amqp_model.proofs.one_end.history_acts.Goals as goal

pub returns-clause-taken : goal.returns-clause-taken
returns-clause-taken c = takes-acts

pub returns-clause-asked : goal.returns-clause-asked
returns-clause-asked c = asks-act

pub returns-clause-lawful : goal.returns-clause-lawful
returns-clause-lawful c = pair-lawful

pub returns-clause-pair : goal.returns-clause-pair
returns-clause-pair c = pair-runs
