use Rattle.std.proofs.Common.{arith}
use Rattle.amqp_method.specs.HeaderView.{header_view}
use Rattle.amqp_method.proofs.HeaderFaults.{header_fault, first_fault_of_header}
use Rattle.amqp_method.proofs.HeaderLemmas.{header_found, header_only, header_refused}
use Rattle.amqp_method.proofs.header_octets.read_header.Goals as goal

pub returns : goal.returns
returns c =
    record {
      found = header_found header_view c.args.octets.now c.exact_header.result (λ i. omega (arith, c.type_inv.octets i)) c.exact_header.ensures.exact;
      only = header_only header_view c.args.octets.now c.exact_header.result c.exact_header.ensures.exact;
      refused = header_refused header_view c.args.octets.now c.exact_header.result c.exact_header.ensures.exact;
      fault = header_fault header_view c.args.octets.now c.exact_header.result (λ i. omega (arith, c.type_inv.octets i)) c.exact_header.ensures.exact;
      told = λ e first. c.exact_header.ensures.faulty e (first_fault_of_header c.args.octets.now e first);
      exact = c.exact_header.ensures.exact;
    }
