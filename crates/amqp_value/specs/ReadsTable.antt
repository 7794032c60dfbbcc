-- What reading a table from the start of octets answers. Read before: what a table is encoded as (`Encoding`), its
-- first fault (`FirstFault`), and what is read (`Reading`).
use Rattle.std.specs.Prelude.{◌≡◌, ◌⊎◌, ◌++◌, ◌≤◌, ℕ, List, length, take, Result, Ok, Err, IfOk, IfErr}
use Rattle.amqp_value.specs.Encoding.{EncodesTable}
use Rattle.amqp_value.specs.Faults.{fault_at, out_of_memory}
use Rattle.amqp_value.specs.FirstFault.{FirstFault, PassesCounted}
use Rattle.amqp_value.specs.Reading.{Gives, table_at}
use Rattle.amqp_value.specs.Tables.{read_view, table_view}
use Rattle.amqp_value.specs.Values.{Pairs}
use Rattle.amqp_value.specs.declared.fault.ValueFault.{ValueFault}
use Rattle.amqp_value.specs.declared.fault.ValueFaultKind.TheVariants.{Ends}
use Rattle.amqp_value.specs.declared.tables.Table.{Table}

pub record ReadsTable (octets : List ℕ) (result : Result (Table × ℕ) ValueFault) : Type 0 where
  -- What is read is encoded so.
  pub found : IfOk result (λ x. EncodesTable (table_view x.0) (take x.1 octets))
  -- No more is read than there is.
  pub within : IfOk result (λ x. x.1 ≤ length octets)
  -- What is encoded so is read, whatever stands after it, unless memory runs out.
  pub only :
      (pairs : Pairs) (prefix after : List ℕ) → EncodesTable pairs prefix → octets ≡ prefix ++ after
      → Gives read_view result (Ok (pairs, length prefix))
  -- Every other fault comes where no prefix encodes a table.
  pub refused :
      IfErr result (λ e. (e ≡ out_of_memory)
      ⊎ ((pairs : Pairs) (prefix after : List ℕ) → EncodesTable pairs prefix → octets ≡ prefix ++ after → ⊥))
  -- It is the fault of the first element that can't be read, unless memory runs out.
  pub fault : IfErr result (λ e. (e ≡ out_of_memory) ⊎ FirstFault octets e)
  -- That one is reported, unless memory runs out.
  pub told : (e : ValueFault) → FirstFault octets e → Gives read_view result (Err e)
  -- A count that passes the input is reported whatever memory there is: the table itself is not looked at.
  pub ends : PassesCounted octets → result ≡ Err (fault_at 0 Ends)
  -- What is read, as a function of the octets.
  pub exact : Gives read_view result (table_at octets)
