use Rattle.amqp_frame.proofs.ShownLemmas.{judged_is_first, first_is_judged}
use Rattle.amqp_frame.proofs.laws.faults_are_judged.Goals as goal

pub returns : goal.returns
returns c = record { shown = judged_is_first; judged = first_is_judged }
