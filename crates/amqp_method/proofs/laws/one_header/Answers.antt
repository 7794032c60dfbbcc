use Rattle.std.proofs.Common.{sym, ◌∙◌}
use Rattle.amqp_method.proofs.FieldLemmas.{same_ok}
use Rattle.amqp_method.proofs.HeaderLemmas.{header_at-again}
use Rattle.amqp_method.proofs.laws.one_header.Goals as goal

pub returns : goal.returns
returns p = λ h g octets s t. same_ok h g (sym (header_at-again octets h s) ∙ header_at-again octets g t)
