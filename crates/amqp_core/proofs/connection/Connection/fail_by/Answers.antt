use Rattle.amqp_core.proofs.connection.Connection.fail_by.Goals as goal

pub returns-in-Some-clause-end : goal.returns-in-Some-clause-end
returns-in-Some-clause-end c = rw c.in-Some.is c.fail.ensures.end
