-- Fewer octets are pending than a frame may have, and none where the end takes none.
use Rattle.amqp_core.specs.Connection.View.{connection_end}
use Rattle.amqp_core.specs.End.EndpointView.{role_at}
use Rattle.amqp_core.proofs.KeptLemmas.{pending_over, pending_within}
use Rattle.amqp_core.proofs.endpoint.Endpoint.pending.Goals as goal

pub returns-clause-below : goal.returns-clause-below
returns-clause-below c = pending_within (role_at c.args.self.now) (connection_end c.args.self.now.connection) c.args.self.now.heard c.pending.result c.args.self.now.splitter c.requires.fields c.pending.ensures.value c.pending.ensures.below_limit

pub returns-clause-none : goal.returns-clause-none
returns-clause-none c = λ over. pending_over (role_at c.args.self.now) (connection_end c.args.self.now.connection) c.args.self.now.heard c.pending.result c.args.self.now.splitter c.requires.fields c.pending.ensures.value over
