-- Each clause is a lemma on alike endpoints.
use Rattle.amqp_model.proofs.AlikeEndpoints.{alike-is-equality, feeds-alike, asking-leaves-alike, writing-leaves-alike}
use Rattle.amqp_model.proofs.streaming.alike_endpoints_stay_alike.Goals as goal

pub returns-clause-equality : goal.returns-clause-equality
returns-clause-equality c = alike-is-equality

pub returns-clause-fed : goal.returns-clause-fed
returns-clause-fed c = feeds-alike

pub returns-clause-asked : goal.returns-clause-asked
returns-clause-asked c = asking-leaves-alike

pub returns-clause-written : goal.returns-clause-written
returns-clause-written c = writing-leaves-alike
