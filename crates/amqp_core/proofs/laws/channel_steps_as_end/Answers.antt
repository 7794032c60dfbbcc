use Rattle.amqp_core.proofs.EndLemmas.{steps_as_end}
use Rattle.amqp_core.proofs.laws.channel_steps_as_end.Goals as goal

pub returns : goal.returns
returns c = steps_as_end
