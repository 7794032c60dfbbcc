-- An end that stands for a history is what the history counts to.
use Rattle.amqp_model.proofs.Standing.{ask-stands}
use Rattle.amqp_model.proofs.one_end.ask_is_of_history.Goals as goal

pub returns : goal.returns
returns c = ask-stands
