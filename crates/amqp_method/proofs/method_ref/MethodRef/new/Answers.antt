use Rattle.std.proofs.Common.{arith, sym}
use Rattle.amqp_method.proofs.RefLemmas.{only_read}
use Rattle.amqp_method.proofs.method_ref.MethodRef.new.Goals as goal

pub returns-in-Some-clause-only : goal.returns-in-Some-clause-only
returns-in-Some-clause-only c = λ m s. only_read c.args.payload.now c.in-Some.kind m c.in-Some.ensures s

pub returns-clause-only : goal.returns-clause-only
returns-clause-only c = λ m s. only_read c.args.payload.now c.in_ok-kind.kind m (sym c.in_ok-kind.ensures.exact) s

pub invariant_of-result : goal.invariant_of-result
invariant_of-result c = record { below = λ i. omega (arith, c.type_inv.payload i); reads = c.in-Some.ensures }

pub invariant_of-result-2 : goal.invariant_of-result-2
invariant_of-result-2 c = record { below = λ i. omega (arith, c.type_inv.payload i); reads = sym c.in_ok-kind.ensures.exact }
