-- The channels stay as they are.
use Rattle.amqp_core.proofs.connection.Connection.fail_at.Goals as goal

pub invariant_of-self-clause-gathers : goal.invariant_of-self-clause-gathers
invariant_of-self-clause-gathers c = c.args.self.now.gathers
