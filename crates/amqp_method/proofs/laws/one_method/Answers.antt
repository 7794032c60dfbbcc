use Rattle.std.proofs.Common.{sym, ◌∙◌}
use Rattle.amqp_method.proofs.FieldLemmas.{same_ok}
use Rattle.amqp_method.proofs.MethodLemmas.{method_at-again}
use Rattle.amqp_method.proofs.laws.one_method.Goals as goal

pub returns : goal.returns
returns p = λ c d octets s t. same_ok c d (sym (method_at-again octets c s) ∙ method_at-again octets d t)
