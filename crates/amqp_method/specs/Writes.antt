-- What appending a method (`WritesMethod`) or a content header (`WritesHeader`) to an output does. Read before: the one
-- plain encoding of each (`Plain`).
use Rattle.std.specs.Prelude.{◌≡◌, ◌⊎◌, ◌++◌, ℕ, List, Result, Err, IfErr, OnErr, OnOk}
use Rattle.amqp_method.specs.Arguments.{Call}
use Rattle.amqp_method.specs.Encoding.{EncodesMethod}
use Rattle.amqp_method.specs.Faults.{out_of_memory, too_long}
use Rattle.amqp_method.specs.Plain.{plain_header, plain_method, CountsAllFit, CountsPresentFit}
use Rattle.amqp_method.specs.Properties.{ContentHeader, EncodesHeader}
use Rattle.amqp_method.specs.declared.faults.MethodFault.{MethodFault}

pub record WritesMethod {A : Type 0} (method : Call) (old : List ℕ) (result : Result A MethodFault)
    (new : List ℕ) : Type 0 where
  -- The method's plain encoding is appended.
  pub ok : OnOk result (new ≡ old ++ plain_method method)
  -- What is written is read again as this method.
  pub encoded : OnOk result (EncodesMethod method (plain_method method))
  -- A count passes its field, or it is out of memory.
  pub err : IfErr result (λ e. (e ≡ too_long) ⊎ (e ≡ out_of_memory))
  -- The former is reported only where the counts don't all fit.
  pub too_long : result ≡ Err too_long → CountsAllFit method.args → ⊥
  -- After a fault the output is as it was.
  pub same : OnErr result (new ≡ old)

pub record WritesHeader {A : Type 0} (header : ContentHeader) (old : List ℕ) (result : Result A MethodFault)
    (new : List ℕ) : Type 0 where
  -- The header's plain encoding is appended.
  pub ok : OnOk result (new ≡ old ++ plain_header header)
  -- What is written is read again as this header.
  pub encoded : OnOk result (EncodesHeader header (plain_header header))
  -- A count passes its field, or it is out of memory.
  pub err : IfErr result (λ e. (e ≡ too_long) ⊎ (e ≡ out_of_memory))
  -- The former is reported only where the counts don't all fit.
  pub too_long : result ≡ Err too_long → CountsPresentFit header.properties → ⊥
  -- After a fault the output is as it was.
  pub same : OnErr result (new ≡ old)
