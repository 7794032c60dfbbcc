-- The new connection is the last.
use Rattle.amqp_link.specs.SetUps.{client_set_up, server_set_up}
use Rattle.amqp_link.proofs.LinkLemmas.{begins-one}
use Rattle.amqp_link.proofs.link.Link.begin.Goals as goal

pub returns : goal.returns
returns c =
    let link = c.args.self.now in
    begins-one (client_set_up link.client) (server_set_up link.server) link.connections.items c.push.new.self.items c.in-Ok.connection c.in-Ok-push.ensures.items c.in-Ok.ensures
