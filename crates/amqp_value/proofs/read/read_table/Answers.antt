use Rattle.std.proofs.Common.{arith}
use Rattle.amqp_value.proofs.TableLaws.{found, within, only, refused}
use Rattle.amqp_value.proofs.Told.{first_fault}
use Rattle.amqp_value.proofs.OnlyTold.{told}
use Rattle.amqp_value.proofs.read.read_table.Goals as goal

pub returns : goal.returns
returns c =
    let octets = c.args.octets.now in
    let read = c.table_prefix.result in
    let exact = c.table_prefix.ensures.exact in
    record {
      found = found octets read (λ i. omega (arith, c.type_inv.octets i)) exact;
      within = within octets read (λ i. omega (arith, c.type_inv.octets i)) exact;
      only = only octets read exact;
      refused = refused octets read exact;
      fault = first_fault octets read (λ i. omega (arith, c.type_inv.octets i)) exact;
      told = told octets read exact;
      ends = c.table_prefix.ensures.ends;
      exact = exact;
    }
