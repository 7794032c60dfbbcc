use Rattle.amqp_calls.proofs.Begun.{client_begins}
use Rattle.amqp_calls.proofs.ends.opening.make_client.Goals as goal

pub returns-in-Ok-begin-clause-ok : goal.returns-in-Ok-begin-clause-ok
returns-in-Ok-begin-clause-ok c = client_begins c.args.given.now c.in-Ok.hello c.in-Ok-begin.end c.in-Ok.ensures.ok c.in-Ok-begin.ensures.ok
