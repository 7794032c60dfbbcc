-- The side that reads stays joined to the one that writes.
use Rattle.amqp_model.specs.Wire.Notes.{Client, Server}
use Rattle.amqp_link.specs.SeatView.{seat_view}
use Rattle.amqp_link.proofs.Joining.{turned-there}
use Rattle.amqp_link.proofs.Ways.{to-client, to-server}
use Rattle.amqp_link.proofs.connection.Connection.carry.Goals as goal

pub carry-requires : goal.carry-requires
carry-requires c = record { joined = turned-there Client (seat_view c.args.self.now.client) (seat_view c.args.self.now.server) c.args.self.now.joined }

pub invariant_of-self : goal.invariant_of-self
invariant_of-self c = record { joined = turned-there Server (seat_view c.carry.new.reader) (seat_view c.carry.new.writer) c.carry.ensures.joined }

pub returns-in-ToServer : goal.returns-in-ToServer
returns-in-ToServer c = to-server c.args.direction c.args.octets _ _ c.carry.result c.in-ToServer.is c.carry.ensures.carries

pub returns-in-ToClient : goal.returns-in-ToClient
returns-in-ToClient c = to-client c.args.direction c.args.octets _ _ c.carry-in-ToClient.result c.in-ToClient.is c.carry-in-ToClient.ensures.carries
