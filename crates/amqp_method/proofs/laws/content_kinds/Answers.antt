use Rattle.amqp_method.proofs.KindLemmas.{content_is}
use Rattle.amqp_method.proofs.laws.content_kinds.Goals as goal

pub returns : goal.returns
returns p = content_is
