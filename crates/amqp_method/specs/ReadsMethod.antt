-- What reading a method answers, where it is kept (`ReadsMethod`) and where it is only checked (`ChecksMethod`). Read
-- before: what a method is encoded as (`Encoding`), its first fault (`FirstFault`), and what is read (`Reading`).
use Rattle.std.specs.Prelude.{◌≡◌, ◌⊎◌, ℕ, List, Result, Ok, Err, IfOk, IfErr}
use Rattle.amqp_method.specs.Arguments.{Argument, Call, call}
use Rattle.amqp_method.specs.Checking.{kind_read}
use Rattle.amqp_method.specs.Encoding.{EncodesMethod}
use Rattle.amqp_method.specs.Faults.{out_of_memory}
use Rattle.amqp_method.specs.FirstFault.{FirstFaultOfMethod}
use Rattle.amqp_method.specs.MethodView.{method_view}
use Rattle.amqp_method.specs.Reading.{Gives, method_at}
use Rattle.amqp_method.specs.declared.faults.MethodFault.{MethodFault}
use Rattle.amqp_method.specs.declared.kinds.Kind.{Kind}
use Rattle.amqp_method.specs.declared.methods.Method.{Method}

pub record ReadsMethod (octets : List ℕ) (result : Result Method MethodFault) : Type 0 where
  -- What is read is encoded so.
  pub found : IfOk result (λ m. EncodesMethod (method_view m) octets)
  -- What is encoded so is read, unless memory runs out.
  pub only : (c : Call) → EncodesMethod c octets → Gives method_view result (Ok c)
  -- Every other fault comes where the octets encode no method.
  pub refused : IfErr result (λ e. (e ≡ out_of_memory) ⊎ ((c : Call) → EncodesMethod c octets → ⊥))
  -- It is the fault of the first field that can't be read.
  pub fault : IfErr result (λ e. (e ≡ out_of_memory) ⊎ FirstFaultOfMethod octets e)
  -- That one is reported whatever memory there is.
  pub told : (e : MethodFault) → FirstFaultOfMethod octets e → result ≡ Err e
  -- What is read, as a function of the octets.
  pub exact : Gives method_view result (method_at octets)

pub record ChecksMethod (octets : List ℕ) (result : Result Kind MethodFault) : Type 0 where
  -- What passes is encoded so.
  pub found : IfOk result (λ kind. (args : List Argument) × EncodesMethod (call kind args) octets)
  -- What is encoded so passes.
  pub only : (c : Call) → EncodesMethod c octets → result ≡ Ok c.kind
  -- A fault comes where the octets encode no method.
  pub refused : IfErr result (λ e. (c : Call) → EncodesMethod c octets → ⊥)
  -- It is the fault of the first field that can't be read.
  pub fault : IfErr result (λ e. FirstFaultOfMethod octets e)
  -- That one is reported.
  pub told : (e : MethodFault) → FirstFaultOfMethod octets e → result ≡ Err e
  -- What is read, as a function of the octets.
  pub exact : result ≡ kind_read (method_at octets)
