use Rattle.std.proofs.Common.{map, arith}
use Rattle.amqp_value.specs.View.{named_view}
use Rattle.amqp_value.proofs.Walking.{table-read}
use Rattle.amqp_value.proofs.one_walk.read_counted.Goals as goal

pub returns : goal.returns
returns c =
    table-read c.args.octets.now c.in_ok-body.body.now (map named_view c.read_pairs.new.pairs.items) (λ i. omega (arith, c.type_inv.octets i)) c.in_ok-body.ensures.four c.in_ok-body.ensures.count c.in_ok-body.ensures.body c.in_ok-in_place.ensures
