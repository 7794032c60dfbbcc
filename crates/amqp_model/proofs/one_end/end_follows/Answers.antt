-- Each clause is a lemma on histories.
use Rattle.amqp_model.proofs.EndSteps.{end-follows, new-end-stands}
use Rattle.amqp_model.proofs.FrameSteps.{frame-follows}
use Rattle.amqp_model.proofs.AskSteps.{asks-follow}
use Rattle.amqp_model.proofs.one_end.end_follows.Goals as goal

pub returns-clause-new : goal.returns-clause-new
returns-clause-new c = new-end-stands

pub returns-clause-entry : goal.returns-clause-entry
returns-clause-entry c = end-follows

pub returns-clause-frame : goal.returns-clause-frame
returns-clause-frame c = frame-follows

pub returns-clause-ask : goal.returns-clause-ask
returns-clause-ask c = asks-follow
