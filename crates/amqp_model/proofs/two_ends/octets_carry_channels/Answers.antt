-- Each clause is a lemma on octets and histories.
use Rattle.amqp_model.proofs.Carrying.{openings-meet, takes-prefix, completed-comes-next}
use Rattle.amqp_model.proofs.two_ends.octets_carry_channels.Goals as goal

pub returns-clause-opening : goal.returns-clause-opening
returns-clause-opening c = openings-meet

pub returns-clause-taken : goal.returns-clause-taken
returns-clause-taken c = takes-prefix

pub returns-clause-next : goal.returns-clause-next
returns-clause-next c = completed-comes-next
