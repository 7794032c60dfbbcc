-- Each clause is a lemma on a verdict.
use Rattle.amqp_model.proofs.Blaming.{blamed-is-fault, fault-is-blamed, octets-are-blamed}
use Rattle.amqp_model.proofs.BlamedAlike.{blamed-alike}
use Rattle.amqp_model.proofs.blame.faults_are_blamed.Goals as goal

pub returns-clause-rule : goal.returns-clause-rule
returns-clause-rule c = blamed-is-fault

pub returns-clause-none : goal.returns-clause-none
returns-clause-none c = fault-is-blamed

pub returns-clause-octets : goal.returns-clause-octets
returns-clause-octets c = octets-are-blamed

pub returns-clause-alike : goal.returns-clause-alike
returns-clause-alike c = blamed-alike
