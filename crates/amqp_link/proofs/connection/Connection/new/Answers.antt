-- Two new sides are joined.
use Rattle.amqp_model.specs.History.Negotiation.{Config}
use Rattle.amqp_model.specs.Wire.Notes.{Client, Server}
use Rattle.amqp_link.specs.SeatView.{seat_view}
use Rattle.amqp_link.specs.SetUps.{client_set_up, server_set_up}
use Rattle.amqp_link.proofs.Joining.{new-joined}
use Rattle.amqp_link.proofs.connection.Connection.new.Goals as goal

pub invariant_of-result : goal.invariant_of-result
invariant_of-result c =
    let client_config : Config Client = (client_set_up c.args.client.now).1 in
    let server_config : Config Server = (server_set_up c.args.server.now).1 in
    record {
      joined = new-joined client_config server_config (seat_view c.in_ok-client.client) (seat_view c.in-Ok.server) (c.octets_follow.ensures.new Client client_config) (c.octets_follow.ensures.new Server server_config)
          (c.steps_stay_pairs.ensures.new Client client_config server_config) c.in_ok-client.ensures.new c.in-Ok.ensures.new c.in_ok-client.ensures.writes c.in-Ok.ensures.writes;
    }
