use Rattle.std.proofs.Common.{◌≡◌, List, [], length, None, Result, Ok, Err, refl, sym, ap, ◌∙◌, arith}
use Rattle.amqp_value.specs.Checking.{fault_in}
use Rattle.amqp_value.specs.Reading.{elements, value_at}
use Rattle.amqp_value.specs.Values.{Datum}
use Rattle.amqp_value.specs.declared.fault.ValueFault.{ValueFault}
use Rattle.amqp_value.proofs.Whole.{is_read, items-whole, value_read}
use Rattle.amqp_value.proofs.array_ref.ArrayRef.new.Goals as goal

-- what is read without a fault
no_fault : {X : Type 0} (r : Result X ValueFault) → None ≡ fault_in r → (x : X) × (r ≡ Ok x)
no_fault (Ok x) none = (x, refl)
no_fault (Err e) none = absurd cc

pub invariant_of-result : goal.invariant_of-result
invariant_of-result c =
    let octets = c.args.octets.now in
    let read = no_fault (elements (value_at 31) (length octets) octets) c.in_ok-check_items.ensures in
    let whole = items-whole 31 (length octets) octets read.0 (omega arith) (λ i. omega (arith, c.type_inv.octets i)) read.1 in
    record { are_items = is_read (elements (value_at 31) 0 octets) read.0 whole }

pub returns-clause-exact : goal.returns-clause-exact
returns-clause-exact c =
    let octets = c.args.octets.now in
    let read = no_fault (elements (value_at 31) (length octets) octets) c.in_ok-check_items.ensures in
    let whole = items-whole 31 (length octets) octets read.0 (omega arith) (λ i. omega (arith, c.type_inv.octets i)) read.1 in
    read.1 ∙ ap (λ (values : List Datum). Ok values) (sym (value_read (elements (value_at 31) 0 octets) [] read.0 whole))
