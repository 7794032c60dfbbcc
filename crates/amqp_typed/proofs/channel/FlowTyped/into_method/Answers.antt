use Rattle.std.proofs.Common.{refl, arith}
use Rattle.amqp_typed.proofs.channel.FlowTyped.into_method.Goals as goal

pub method_of-requires : goal.method_of-requires
method_of-requires c = (omega arith, refl)

pub returns : goal.returns
returns c = c.method_of.ensures
