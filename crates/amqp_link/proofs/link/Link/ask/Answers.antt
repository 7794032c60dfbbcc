-- It is done with the connection of this number.
use Rattle.std.proofs.Common.{◌∙◌}
use Rattle.std.proofs.lemmas.Option.{slice_get_read}
use Rattle.amqp_core.specs.Asks.View.{ask_view}
use Rattle.amqp_core.specs.Roles.{role_of}
use Rattle.amqp_link.specs.ConnectionSteps.{ConnectionAsked}
use Rattle.amqp_link.specs.SetUps.{client_set_up, server_set_up}
use Rattle.amqp_link.proofs.LinkLemmas.{does-at}
use Rattle.amqp_link.proofs.link.Link.ask.Goals as goal

pub returns : goal.returns
returns c =
    let link = c.args.self.now in
    does-at (λ here answer there. ConnectionAsked (role_of c.args.side) (ask_view c.args.ask.now) here answer there) c.args.index (client_set_up link.client) (server_set_up link.server) link.connections.items
    c.index_mut-connection.result.now c.ask.new.self c.ask.result
    (slice_get_read link.connections.items c.len.result c.args.index c.index_mut-connection.result.now (c.len.ensures ∙ link.connections.ok.0) c.if-len-index.false c.index_mut-connection.ensures.value) c.ask.ensures
