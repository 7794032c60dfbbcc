use Rattle.amqp_outbox.proofs.PiecesSearch.{turn-later, turn-last}
use Rattle.amqp_outbox.proofs.queues.next_of.Goals as goal

pub returns-in-Some : goal.returns-in-Some
returns-in-Some c = turn-later _ _ _ _ c.requires c.count_up_to-later.ensures.within c.count_up_to-later.ensures.up_to c.count_up_to-later.ensures.after c.in-Some.ensures

pub returns : goal.returns
returns c = turn-last _ _ _ c.first_waiting-2.result c.requires c.count_up_to-later.ensures.within c.count_up_to-later.ensures.up_to c.in_default.ensures c.first_waiting-2.ensures
