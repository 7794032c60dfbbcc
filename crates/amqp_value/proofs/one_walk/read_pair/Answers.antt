use Rattle.std.proofs.Common.{length, arith}
use Rattle.amqp_value.proofs.Walking.{begins-checked}
use Rattle.amqp_value.proofs.one_walk.read_pair.Goals as goal

pub own_pair-requires : goal.own_pair-requires
own_pair-requires c = begins-checked (length c.args.octets.now) c.args.octets.now _ (λ i. omega (arith, c.type_inv.octets i)) c.in-Ok.ensures.checked
