-- What checking the table at the start of octets answers. Read before: what a table is encoded as (`Encoding`), its
-- first fault (`FirstFault`), and its size (`Checking`).
use Rattle.std.specs.Prelude.{◌≡◌, ◌++◌, ◌≤◌, ℕ, List, length, take, Result, Ok, Err, IfOk, IfErr}
use Rattle.amqp_value.specs.Checking.{measured}
use Rattle.amqp_value.specs.Encoding.{EncodesTable}
use Rattle.amqp_value.specs.FirstFault.{FirstFault}
use Rattle.amqp_value.specs.Reading.{table_at}
use Rattle.amqp_value.specs.Values.{Pairs}
use Rattle.amqp_value.specs.declared.fault.ValueFault.{ValueFault}

pub record ChecksTable (octets : List ℕ) (result : Result ℕ ValueFault) : Type 0 where
  -- The octets up to that size encode a table.
  pub found : IfOk result (λ n. (pairs : Pairs) × EncodesTable pairs (take n octets))
  -- The size is no more than there is.
  pub within : IfOk result (λ n. n ≤ length octets)
  -- A table at the start is found, whatever stands after it.
  pub only :
      (pairs : Pairs) (prefix after : List ℕ) → EncodesTable pairs prefix → octets ≡ prefix ++ after
      → result ≡ Ok (length prefix)
  -- A fault comes where no prefix encodes a table.
  pub refused :
      IfErr result (λ e.
      (pairs : Pairs) (prefix after : List ℕ) → EncodesTable pairs prefix → octets ≡ prefix ++ after → ⊥)
  -- It is the fault of the first element that can't be read.
  pub fault : IfErr result (λ e. FirstFault octets e)
  -- That one is reported.
  pub told : (e : ValueFault) → FirstFault octets e → result ≡ Err e
  -- The size or the fault, as a function of the octets.
  pub exact : result ≡ measured (table_at octets)
