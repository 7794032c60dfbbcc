use Rattle.amqp_method.proofs.HeaderLemmas.{header_at-again}
use Rattle.amqp_method.proofs.MethodLemmas.{method_at-again}
use Rattle.amqp_method.proofs.laws.encoded_is_read.Goals as goal

pub returns-clause-method : goal.returns-clause-method
returns-clause-method p = λ c octets s. method_at-again octets c s

pub returns-clause-header : goal.returns-clause-header
returns-clause-header p = λ h octets s. header_at-again octets h s
