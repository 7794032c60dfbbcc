-- What putting a value under a name does to a table. Read before: pairs by name (`Pairs`).
use Rattle.std.specs.Prelude.{◌≡◌, ◌⊎◌, ◌<◌, ◌↔◌, ℕ, List, Option, Some, None, Result, Err, IfErr, IfOk, OnErr, OnOk, MatchOption}
use Rattle.amqp_value.specs.Faults.{fault_at, out_of_memory}
use Rattle.amqp_value.specs.Pairs.{value_named, with_value}
use Rattle.amqp_value.specs.Values.{Datum, Pairs, table_depth}
use Rattle.amqp_value.specs.View.{view}
use Rattle.amqp_value.specs.declared.fault.ValueFault.{ValueFault}
use Rattle.amqp_value.specs.declared.fault.ValueFaultKind.TheVariants.{TooDeep}
use Rattle.amqp_value.specs.declared.values.Value.{Value}

pub record SetsValue (name : List ℕ) (value : Datum) (old : Pairs) (result : Result (Option Value) ValueFault)
    (new : Pairs) : Type 0 where
  -- The value stands in place of that of the first pair with the name, or else in a pair after the last.
  pub ok : OnOk result (new ≡ with_value old name value)
  -- The answer is the value that stood there, if there was a pair with the name.
  pub held :
      IfOk result (λ held. MatchOption held (value_named name old ≡ None)
      (λ v. value_named name old ≡ Some (view v)))
  -- TooDeep at 0 is reported exactly where the table would nest deeper than 32 levels.
  pub too_deep : (result ≡ Err (fault_at 0 TooDeep)) ↔ (32 < table_depth (with_value old name value))
  -- Any other fault is out of memory.
  pub err : IfErr result (λ e. (e ≡ fault_at 0 TooDeep) ⊎ (e ≡ out_of_memory))
  -- After a fault the table is as it was.
  pub same : OnErr result (new ≡ old)
