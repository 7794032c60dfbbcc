-- A link of the code, in these words.
use Rattle.std.specs.Prelude.{map}
use Rattle.amqp_link.specs.ConnectionView.{connection_view}
use Rattle.amqp_link.specs.LinkSteps.{Linked}
use Rattle.amqp_link.specs.SetUps.{client_set_up, server_set_up}
use Rattle.amqp_link.specs.declared.link.Link.{Link}

abbrev pub link_view : Link → Linked
link_view link = record {
  client = client_set_up link.client;
  server = server_set_up link.server;
  connections = map connection_view link.connections.items;
}
