-- Each clause is a lemma on what an end keeps.
use Rattle.amqp_model.proofs.Bounding.{new-within, frame-stays-within, ask-stays-within, stands-within}
use Rattle.amqp_model.proofs.bounds.ends_are_bounded.Goals as goal

pub returns-clause-new : goal.returns-clause-new
returns-clause-new c = new-within

pub returns-clause-frame : goal.returns-clause-frame
returns-clause-frame c = frame-stays-within

pub returns-clause-ask : goal.returns-clause-ask
returns-clause-ask c = ask-stays-within

pub returns-clause-stands : goal.returns-clause-stands
returns-clause-stands c = stands-within
