-- Each clause is a lemma on two endpoints.
use Rattle.amqp_model.proofs.ControlLaws.{control-stands-together, controlled-stays-pair}
use Rattle.amqp_model.proofs.controls.controls_stand_together.Goals as goal

pub returns-clause-together : goal.returns-clause-together
returns-clause-together c = control-stands-together c.written_reads_back.ensures.method

pub returns-clause-pair : goal.returns-clause-pair
returns-clause-pair c = controlled-stays-pair
