-- Each clause is a lemma on what is written.
use Rattle.amqp_model.proofs.ControlLaws.{controlled-reads-back, controlled-fits}
use Rattle.amqp_model.proofs.controls.controls_are_written.Goals as goal

pub returns-clause-reads_back : goal.returns-clause-reads_back
returns-clause-reads_back c = controlled-reads-back c.written_reads_back.ensures.method

pub returns-clause-fit : goal.returns-clause-fit
returns-clause-fit c = controlled-fits
