use Rattle.std.proofs.Common.{arith}
use Rattle.amqp_method.proofs.HeaderChecks.{check_found, check_only, check_refused, check_fault, check_told}
use Rattle.amqp_method.proofs.header_checker.check_header.Goals as goal

pub returns : goal.returns
returns c =
    record {
      found = check_found c.args.payload.now c.exact_size.result (λ i. omega (arith, c.type_inv.payload i)) c.exact_size.ensures;
      only = check_only c.args.payload.now c.exact_size.result c.exact_size.ensures;
      refused = check_refused c.args.payload.now c.exact_size.result c.exact_size.ensures;
      fault = check_fault c.args.payload.now c.exact_size.result (λ i. omega (arith, c.type_inv.payload i)) c.exact_size.ensures;
      told = check_told c.args.payload.now c.exact_size.result c.exact_size.ensures;
      exact = c.exact_size.ensures;
    }
