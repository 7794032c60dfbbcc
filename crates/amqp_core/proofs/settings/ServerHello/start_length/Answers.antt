use Rattle.std.proofs.Common.{arith}
use Rattle.amqp_core.proofs.GreetingLengths.{start-length}
use Rattle.amqp_core.proofs.settings.ServerHello.start_length.Goals as goal

pub returns : goal.returns
returns c config is = let whole = start-length config _ _ _ is in omega arith
