-- It is done with the connection of this number.
use Rattle.std.proofs.Common.{◌∙◌}
use Rattle.std.proofs.lemmas.Option.{slice_get_read}
use Rattle.amqp_core.specs.Roles.{role_of}
use Rattle.amqp_link.specs.ConnectionSteps.{ConnectionDrops}
use Rattle.amqp_link.specs.SetUps.{client_set_up, server_set_up}
use Rattle.amqp_link.proofs.LinkLemmas.{does-at}
use Rattle.amqp_link.proofs.link.Link.drop_side.Goals as goal

pub returns : goal.returns
returns c =
    let link = c.args.self.now in
    does-at (λ here answer there. ConnectionDrops (role_of c.args.side) here answer there) c.args.index (client_set_up link.client) (server_set_up link.server) link.connections.items
    c.index_mut-connection.result.now c.drop_side.new.self c.drop_side.result
    (slice_get_read link.connections.items c.len.result c.args.index c.index_mut-connection.result.now (c.len.ensures ∙ link.connections.ok.0) c.if-len-index.false c.index_mut-connection.ensures.value) c.drop_side.ensures
