use Rattle.std.proofs.Common.{arith}
use Rattle.amqp_method.specs.MethodView.{method_view}
use Rattle.amqp_method.proofs.MethodLemmas.{found, only, refused}
use Rattle.amqp_method.proofs.MethodFaults.{fault, first_fault_of_method}
use Rattle.amqp_method.proofs.method_octets.read_method.Goals as goal

pub returns : goal.returns
returns c =
    record {
      found = found method_view c.args.octets.now c.exact_method.result (λ i. omega (arith, c.type_inv.octets i)) c.exact_method.ensures.exact;
      only = only method_view c.args.octets.now c.exact_method.result c.exact_method.ensures.exact;
      refused = refused method_view c.args.octets.now c.exact_method.result c.exact_method.ensures.exact;
      fault = fault method_view c.args.octets.now c.exact_method.result (λ i. omega (arith, c.type_inv.octets i)) c.exact_method.ensures.exact;
      told = λ e first. c.exact_method.ensures.faulty e (first_fault_of_method c.args.octets.now e first);
      exact = c.exact_method.ensures.exact;
    }
