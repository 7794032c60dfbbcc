-- The clauses are lemmas on what leaves.
use Rattle.amqp_model.proofs.LeavingLast.{leaves-last, put-as}
use Rattle.amqp_model.proofs.arrangement.closes_leave_last.Goals as goal

pub returns-clause-nothing_after : goal.returns-clause-nothing_after
returns-clause-nothing_after c = leaves-last

pub returns-clause-octets : goal.returns-clause-octets
returns-clause-octets c = put-as
