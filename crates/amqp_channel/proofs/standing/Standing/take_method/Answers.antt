use Rattle.amqp_channel.proofs.standing.Standing.take_method.Goals as goal

pub returns-in-Server-clause-ok : goal.returns-in-Server-clause-ok
returns-in-Server-clause-ok c = rw c.in-Server.is c.take_request.ensures.ok
