use Rattle.std.proofs.Common.{arith}
use Rattle.std.proofs.lemmas.Result.{err_from_is_err_and}
use Rattle.amqp_method.specs.HeaderReading.{header_at}
use Rattle.amqp_method.proofs.HeaderChecks.{fault_of_size}
use Rattle.amqp_method.proofs.HeaderFaults.{header_at-told}
use Rattle.amqp_method.proofs.HeaderRefs.{only_read}
use Rattle.amqp_method.proofs.header_ref.HeaderRef.new.Goals as goal

pub returns-clause-only : goal.returns-clause-only
returns-clause-only c = λ h s. only_read c.args.payload.now c.in_ok-start.start.body_size h c.in_ok-start.ensures.read s

pub returns-in_err-start-clause-fault : goal.returns-in_err-start-clause-fault
returns-in_err-start-clause-fault c =
    let p = err_from_is_err_and c.from_residual.result c.from_residual.ensures.1 in
    rw (p.1, p.2) (header_at-told c.args.payload.now c.in_err-start.field-0.0 (λ i. omega (arith, c.type_inv.payload i)) (fault_of_size (header_at c.args.payload.now) c.in_err-start.field-0.0 c.in_err-start.ensures.read))
