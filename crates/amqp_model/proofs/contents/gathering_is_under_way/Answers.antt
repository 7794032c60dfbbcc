-- Both are lemmas on the machine after any payloads.
use Rattle.amqp_model.proofs.GatheringLemmas.{keeps-under_way, keeps-octets}
use Rattle.amqp_model.proofs.contents.gathering_is_under_way.Goals as goal

pub returns-clause-state : goal.returns-clause-state
returns-clause-state c = keeps-under_way

pub returns-clause-octets : goal.returns-clause-octets
returns-clause-octets c = keeps-octets
