-- The clauses are lemmas on what leaves.
use Rattle.amqp_model.proofs.Departing.{output-in-order, output-queues}
use Rattle.amqp_model.proofs.LeavingLast.{close-split}
use Rattle.amqp_model.proofs.arrangement.frames_leave_in_order.Goals as goal

pub returns-clause-octets : goal.returns-clause-octets
returns-clause-octets c = output-in-order

pub returns-clause-after : goal.returns-clause-after
returns-clause-after c = close-split

pub returns-clause-waiting : goal.returns-clause-waiting
returns-clause-waiting c = output-queues
