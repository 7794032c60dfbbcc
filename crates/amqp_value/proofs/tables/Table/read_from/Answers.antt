use Rattle.std.proofs.Common.{arith}
use Rattle.amqp_value.specs.View.{pairs_view}
use Rattle.amqp_value.proofs.TableLaws.{table_at-takes}
use Rattle.amqp_value.proofs.tables.Table.read_from.Goals as goal

pub invariant_of-self : goal.invariant_of-self
invariant_of-self c =
    let taken = table_at-takes c.args.octets.now (pairs_view c.read_counted.new.pairs.items, c.in-Some.size) (λ i. omega (arith, c.type_inv.octets i)) c.in-Some.ensures in
    record { depth_is_bounded = taken.0.0 }

pub returns-in-Some-clause-within : goal.returns-in-Some-clause-within
returns-in-Some-clause-within c =
    (table_at-takes c.args.octets.now (pairs_view c.read_counted.new.pairs.items, c.in-Some.size) (λ i. omega (arith, c.type_inv.octets i)) c.in-Some.ensures).1
