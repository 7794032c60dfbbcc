-- What is dropped takes no memory.
use Rattle.amqp_core.proofs.connection.Connection.carry_out_on_lent.Goals as goal

pub returns-clause-light : goal.returns-clause-light
returns-clause-light c = λ light. c.put_owed.ensures.nothing (c.owed_on-owed.ensures.light light.1)
