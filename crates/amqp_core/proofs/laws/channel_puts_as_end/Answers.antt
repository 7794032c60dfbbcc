use Rattle.amqp_core.proofs.PutSteps.{puts_as_end}
use Rattle.amqp_core.proofs.laws.channel_puts_as_end.Goals as goal

pub returns : goal.returns
returns c = puts_as_end
