use Rattle.std.proofs.Common.{arith, sym, ◌∙◌}
use Rattle.amqp_value.specs.Reading.{table_at}
use Rattle.amqp_value.proofs.Checked.{measured_ok}
use Rattle.amqp_value.proofs.Whole.{own-table}
use Rattle.amqp_value.proofs.table_ref.TableRef.new.Goals as goal

pub invariant_of-result : goal.invariant_of-result
invariant_of-result c =
    let octets = c.args.octets.now in
    let one = measured_ok (table_at octets) c.in_ok-size.size (sym (c.in_ok-size.was) ∙ c.check_table.ensures.exact) in
    record { is_table = (own-table octets (one.0, c.in_ok-size.size) (λ i. omega (arith, c.type_inv.octets i)) one.1).is_table }

pub returns-clause-exact : goal.returns-clause-exact
returns-clause-exact c =
    let octets = c.args.octets.now in
    let one = measured_ok (table_at octets) c.in_ok-size.size (sym (c.in_ok-size.was) ∙ c.check_table.ensures.exact) in
    (own-table octets (one.0, c.in_ok-size.size) (λ i. omega (arith, c.type_inv.octets i)) one.1).reads
