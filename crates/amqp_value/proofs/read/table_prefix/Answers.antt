use Rattle.std.proofs.Common.{◌≡◌, ◌∙◌, ℕ, List, Result, Ok, Err, sym, refl}
use Rattle.std.proofs.lemmas.Result.{err_from_is_err_and}
use Rattle.amqp_value.specs.Faults.{fault_at}
use Rattle.amqp_value.specs.FirstFault.{PassesCounted, ends}
use Rattle.amqp_value.specs.Reading.{table_at}
use Rattle.amqp_value.specs.Values.{Pairs}
use Rattle.amqp_value.specs.declared.fault.ValueFault.{ValueFault}
use Rattle.amqp_value.specs.declared.fault.ValueFaultKind.TheVariants.{Ends}
use Rattle.amqp_value.proofs.OnlyTold.{first_fault_told}
use Rattle.amqp_value.proofs.read.table_prefix.Goals as goal

counted-first : (octets : List ℕ) → PassesCounted octets → table_at octets ≡ Err (fault_at 0 Ends)
counted-first octets passes = first_fault_told octets (fault_at 0 Ends) (ends passes refl)

abbrev failed : ValueFault → Result (Pairs × ℕ) ValueFault
failed e = Err e

abbrev read_so : Pairs × ℕ → Result (Pairs × ℕ) ValueFault
read_so x = Ok x

fault_is : (d e : ValueFault) → failed d ≡ failed e → d ≡ e
fault_is d e h = cc

apart : (x : Pairs × ℕ) (e : ValueFault) → read_so x ≡ failed e → ⊥
apart x e h = absurd cc

pub returns-in_err-table-clause-ends : goal.returns-in_err-table-clause-ends
returns-in_err-table-clause-ends c = λ passes.
    let p = err_from_is_err_and c.from_residual.result c.from_residual.ensures.1 in
    let is = fault_is c.in_err-table.field-0.0 (fault_at 0 Ends) (sym c.in_err-table.ensures.exact ∙ counted-first c.args.octets.now passes) in
    rw (p.1, p.2, is) refl

pub returns-in_err-to_owned-clause-ends : goal.returns-in_err-to_owned-clause-ends
returns-in_err-to_owned-clause-ends c = λ passes. absurd (apart _ (fault_at 0 Ends) (sym c.in_ok-table.ensures.exact ∙ counted-first c.args.octets.now passes))

pub returns-clause-ends : goal.returns-clause-ends
returns-clause-ends c = λ passes. absurd (apart _ (fault_at 0 Ends) (sym c.in_ok-table.ensures.exact ∙ counted-first c.args.octets.now passes))
