-- The side that is dropped stays joined to the other.
use Rattle.amqp_model.specs.Wire.Notes.{Client, Server}
use Rattle.amqp_link.specs.SeatView.{seat_view}
use Rattle.amqp_link.proofs.Joining.{dropped, turned-there}
use Rattle.amqp_link.proofs.connection.Connection.drop_side.Goals as goal

pub invariant_of-self : goal.invariant_of-self
invariant_of-self c =
    record {
      joined = dropped Client (seat_view c.args.self.now.client) (seat_view c.args.self.now.server) (seat_view c.drop_end.new.self) c.drop_end.result c.args.self.now.joined c.drop_end.ensures;
    }

pub invariant_of-self-in-Server : goal.invariant_of-self-in-Server
invariant_of-self-in-Server c =
    let client = seat_view c.args.self.now.client in
    let server = seat_view c.args.self.now.server in
    let after = seat_view c.drop_end-in-Server.new.self in
    record {
      joined = turned-there Server after client (dropped Server server client after c.drop_end-in-Server.result (turned-there Client client server c.args.self.now.joined) c.drop_end-in-Server.ensures);
    }
