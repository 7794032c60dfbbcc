-- An end that stands for a history is what the history counts to.
use Rattle.amqp_model.proofs.Standing.{verdict-stands}
use Rattle.amqp_model.proofs.one_end.verdict_is_of_history.Goals as goal

pub returns : goal.returns
returns c = verdict-stands
