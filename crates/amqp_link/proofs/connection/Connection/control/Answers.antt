-- The side that beats or decides stays joined to the other.
use Rattle.amqp_model.specs.Wire.Notes.{Client, Server}
use Rattle.amqp_link.specs.ControlView.{control_view}
use Rattle.amqp_link.specs.SeatView.{seat_view}
use Rattle.amqp_link.proofs.Joining.{controlled, turned-there}
use Rattle.amqp_link.proofs.connection.Connection.control.Goals as goal

pub invariant_of-self : goal.invariant_of-self
invariant_of-self c =
    let client = seat_view c.args.self.now.client in
    let server = seat_view c.args.self.now.server in
    record {
      joined = controlled Client (control_view c.args.control.now) client server (seat_view c.control.new.self) c.control.result
          (λ role cc sc mine theirs end control frames. c.controls_stand_together.ensures.pair role cc sc mine theirs end control frames) c.args.self.now.joined c.control.ensures;
    }

pub invariant_of-self-in-Server : goal.invariant_of-self-in-Server
invariant_of-self-in-Server c =
    let client = seat_view c.args.self.now.client in
    let server = seat_view c.args.self.now.server in
    let after = seat_view c.control-in-Server.new.self in
    record {
      joined = turned-there Server after client
          (controlled Server (control_view c.args.control.now) server client after c.control-in-Server.result
          (λ role cc sc mine theirs end control frames. c.controls_stand_together.ensures.pair role cc sc mine theirs end control frames)
          (turned-there Client client server c.args.self.now.joined) c.control-in-Server.ensures);
    }
