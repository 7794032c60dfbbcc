use Rattle.std.proofs.Common.{arith}
use Rattle.amqp_value.proofs.Checked.{found, within, only, refused, first_fault, told}
use Rattle.amqp_value.proofs.check.check_table.Goals as goal

pub returns : goal.returns
returns c =
    let octets = c.args.octets.now in
    let size = c.table_size.result in
    let exact = c.table_size.ensures in
    record {
      found = found octets size (λ i. omega (arith, c.type_inv.octets i)) exact;
      within = within octets size (λ i. omega (arith, c.type_inv.octets i)) exact;
      only = only octets size exact;
      refused = refused octets size exact;
      fault = first_fault octets size (λ i. omega (arith, c.type_inv.octets i)) exact;
      told = told octets size exact;
      exact = exact;
    }
