-- The side that is asked stays joined to the other.
use Rattle.amqp_model.specs.Wire.Notes.{Client, Server}
use Rattle.amqp_core.specs.Asks.View.{ask_view}
use Rattle.amqp_link.specs.SeatView.{seat_view}
use Rattle.amqp_link.proofs.Joining.{asked, turned-there}
use Rattle.amqp_link.proofs.connection.Connection.ask.Goals as goal

pub invariant_of-self : goal.invariant_of-self
invariant_of-self c =
    let client = seat_view c.args.self.now.client in
    let server = seat_view c.args.self.now.server in
    record {
      joined = asked Client (ask_view c.args.ask.now) client server (seat_view c.ask.new.self) c.ask.result (λ role cc sc mine theirs end ask frames. c.ends_stand_together.ensures.pair role cc sc mine theirs end ask frames) c.args.self.now.joined c.ask.ensures;
    }

pub invariant_of-self-in-Server : goal.invariant_of-self-in-Server
invariant_of-self-in-Server c =
    let client = seat_view c.args.self.now.client in
    let server = seat_view c.args.self.now.server in
    let after = seat_view c.ask-in-Server.new.self in
    record {
      joined = turned-there Server after client
          (asked Server (ask_view c.args.ask.now) server client after c.ask-in-Server.result (λ role cc sc mine theirs end ask frames. c.ends_stand_together.ensures.pair role cc sc mine theirs end ask frames)
          (turned-there Client client server c.args.self.now.joined) c.ask-in-Server.ensures);
    }
