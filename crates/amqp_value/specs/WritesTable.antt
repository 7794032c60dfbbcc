-- What appending a table to an output does. Read before: a table's one plain encoding (`Plain`).
use Rattle.std.specs.Prelude.{◌≡◌, ◌⊎◌, ◌++◌, ℕ, List, Result, Err, IfErr, OnErr, OnOk}
use Rattle.amqp_value.specs.Encoding.{EncodesTable}
use Rattle.amqp_value.specs.Faults.{fault_at, out_of_memory}
use Rattle.amqp_value.specs.Plain.{plain_table, CountsFit}
use Rattle.amqp_value.specs.Values.{Pairs, table}
use Rattle.amqp_value.specs.declared.fault.ValueFault.{ValueFault}
use Rattle.amqp_value.specs.declared.fault.ValueFaultKind.TheVariants.{TooLong}

pub record WritesTable {A : Type 0} (pairs : Pairs) (old : List ℕ) (result : Result A ValueFault)
    (new : List ℕ) : Type 0 where
  -- The table's plain encoding is appended.
  pub ok : OnOk result (new ≡ old ++ plain_table pairs)
  -- What is written is read again as this table.
  pub encoded : OnOk result (EncodesTable pairs (plain_table pairs))
  -- A count inside passes 4294967295, or it is out of memory.
  pub err : IfErr result (λ e. (e ≡ fault_at 0 TooLong) ⊎ (e ≡ out_of_memory))
  -- The former is reported only where one does.
  pub too_long : result ≡ Err (fault_at 0 TooLong) → CountsFit (table pairs) → ⊥
  -- After a fault the output is as it was.
  pub same : OnErr result (new ≡ old)
