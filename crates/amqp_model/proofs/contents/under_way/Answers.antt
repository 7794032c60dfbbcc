-- Both are lemmas on what grows, payload by payload.
use Rattle.amqp_model.proofs.GatheringLemmas.{one-under_way, goes-on-as-due}
use Rattle.amqp_model.proofs.contents.under_way.Goals as goal

pub returns-clause-one : goal.returns-clause-one
returns-clause-one c = one-under_way

pub returns-clause-due : goal.returns-clause-due
returns-clause-due c = goes-on-as-due
