-- What a check of a table may promise, from the size or the fault that it answers.
use Rattle.std.proofs.Common.{◌≡◌, ℕ, ◌≤◌, List, ◌++◌, length, take, Result, Ok, Err, ap, ◌∙◌}
use Rattle.std.specs.Prelude.{IfOk, IfErr}
use Rattle.amqp_value.specs.Checking.{measured}
use Rattle.amqp_value.specs.Encoding.{EncodesTable}
use Rattle.amqp_value.specs.FirstFault.{FirstFault}
use Rattle.amqp_value.specs.Reading.{table_at}
use Rattle.amqp_value.specs.Values.{Pairs}
use Rattle.amqp_value.specs.declared.fault.ValueFault.{ValueFault}
use Rattle.amqp_value.proofs.Numbers.{IsBytes}
use Rattle.amqp_value.proofs.OnlyTold.{first_fault_told}
use Rattle.amqp_value.proofs.TableLaws.{table_at-takes, table_at-again}
use Rattle.amqp_value.proofs.Told.{table_at-told}

-- the table whose size was answered
pub measured_ok : {X : Type 0} (read : Result (X × ℕ) ValueFault) (n : ℕ) → Ok n ≡ measured read → (x : X) × (read ≡ Ok (x, n))
measured_ok (Ok x) n e =
    let is : x.1 ≡ n = cc in
    (x.0, ap (λ m. Ok (x.0, m)) is)
measured_ok (Err d) n e = absurd cc

pub measured_err : {X : Type 0} (read : Result (X × ℕ) ValueFault) (e : ValueFault) → Err e ≡ measured read → read ≡ Err e
measured_err (Ok x) e h = absurd cc
measured_err (Err d) e h = ap (λ f. Err f) cc

pub found : (octets : List ℕ) (r : Result ℕ ValueFault) → IsBytes octets → r ≡ measured (table_at octets) → IfOk r (λ n. (pairs : Pairs) × EncodesTable pairs (take n octets))
found octets (Ok n) fits is =
    let one = measured_ok (table_at octets) n is in
    (one.0, (table_at-takes octets (one.0, n) fits one.1).0)
found octets (Err e) fits is = tt

pub within : (octets : List ℕ) (r : Result ℕ ValueFault) → IsBytes octets → r ≡ measured (table_at octets) → IfOk r (λ n. n ≤ length octets)
within octets (Ok n) fits is =
    let one = measured_ok (table_at octets) n is in
    (table_at-takes octets (one.0, n) fits one.1).1
within octets (Err e) fits is = tt

pub only : (octets : List ℕ) (r : Result ℕ ValueFault) → r ≡ measured (table_at octets) → (pairs : Pairs) (prefix after : List ℕ) → EncodesTable pairs prefix → octets ≡ prefix ++ after → r ≡ Ok (length prefix)
only octets r is pairs prefix after encodes whole = is ∙ ap measured (ap table_at whole ∙ table_at-again pairs prefix after encodes)

abbrev size_as : Result ℕ ValueFault → Result ℕ ValueFault
size_as r = r

refuted : (e : ValueFault) (n : ℕ) → size_as (Err e) ≡ size_as (Ok n) → ⊥
refuted e n h = absurd cc

pub refused : (octets : List ℕ) (r : Result ℕ ValueFault) → r ≡ measured (table_at octets)
    → IfErr r (λ e. (pairs : Pairs) (prefix after : List ℕ) → EncodesTable pairs prefix → octets ≡ prefix ++ after → ⊥)
refused octets (Ok n) is = tt
refused octets (Err e) is = λ pairs prefix after encodes whole. refuted e (length prefix) (only octets (Err e) is pairs prefix after encodes whole)

pub first_fault : (octets : List ℕ) (r : Result ℕ ValueFault) → IsBytes octets → r ≡ measured (table_at octets) → IfErr r (λ e. FirstFault octets e)
first_fault octets (Ok n) fits is = tt
first_fault octets (Err e) fits is = table_at-told octets e fits (measured_err (table_at octets) e is)

pub told : (octets : List ℕ) (r : Result ℕ ValueFault) → r ≡ measured (table_at octets) → (e : ValueFault) → FirstFault octets e → r ≡ Err e
told octets r is e first = is ∙ ap measured (first_fault_told octets e first)
