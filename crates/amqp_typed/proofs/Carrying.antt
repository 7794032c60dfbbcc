-- Methods that a content follows.
use Rattle.std.proofs.Common.{◌≡◌, true, ap, ◌∙◌, Result, Ok, Err}
use Rattle.std.specs.Prelude.{IfOk}
use Rattle.amqp_method.specs.Arguments.{Call}
use Rattle.amqp_method.specs.Kinds.{has_content}
use Rattle.amqp_method.specs.MethodView.{method_view}
use Rattle.amqp_method.specs.declared.faults.OutOfMemory.{OutOfMemory}
use Rattle.amqp_method.specs.declared.methods.Method.{Method}

-- a method that was made is of the kind that was wanted
pub carries : (made : Result Method OutOfMemory) (call : Call) → IfOk made (λ m. method_view m ≡ call) → has_content call.kind ≡ true
    → IfOk made (λ m. has_content (method_view m).kind ≡ true)
carries (Ok m) call is kind = ap (λ (c : Call). has_content c.kind) is ∙ kind
carries (Err e) call is kind = tt
