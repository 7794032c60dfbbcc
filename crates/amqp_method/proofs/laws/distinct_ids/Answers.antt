use Rattle.amqp_method.proofs.KindLemmas.{ids_distinct}
use Rattle.amqp_method.proofs.laws.distinct_ids.Goals as goal

pub returns : goal.returns
returns p = ids_distinct
