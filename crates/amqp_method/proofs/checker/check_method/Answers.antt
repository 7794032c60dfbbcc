use Rattle.std.proofs.Common.{arith}
use Rattle.amqp_method.proofs.CheckLemmas.{check_found, check_only, check_refused, check_fault, check_told}
use Rattle.amqp_method.proofs.checker.check_method.Goals as goal

pub returns : goal.returns
returns c =
    record {
      found = check_found c.args.payload.now c.exact_kind.result (λ i. omega (arith, c.type_inv.payload i)) c.exact_kind.ensures;
      only = check_only c.args.payload.now c.exact_kind.result c.exact_kind.ensures;
      refused = check_refused c.args.payload.now c.exact_kind.result c.exact_kind.ensures;
      fault = check_fault c.args.payload.now c.exact_kind.result (λ i. omega (arith, c.type_inv.payload i)) c.exact_kind.ensures;
      told = check_told c.args.payload.now c.exact_kind.result c.exact_kind.ensures;
      exact = c.exact_kind.ensures;
    }
