use Rattle.amqp_method.proofs.FittingLemmas.{plain_method-encoded, plain_header-encoded}
use Rattle.amqp_method.proofs.laws.plain_is_encoded.Goals as goal

pub returns-clause-method : goal.returns-clause-method
returns-clause-method p = plain_method-encoded

pub returns-clause-header : goal.returns-clause-header
returns-clause-header p = plain_header-encoded
