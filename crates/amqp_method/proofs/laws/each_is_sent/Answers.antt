use Rattle.amqp_method.proofs.KindLemmas.{each_sent}
use Rattle.amqp_method.proofs.laws.each_is_sent.Goals as goal

pub returns : goal.returns
returns p = each_sent
