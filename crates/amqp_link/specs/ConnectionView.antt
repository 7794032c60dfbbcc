-- A connection of the code, in these words.
use Rattle.amqp_link.specs.SeatView.{seat_view}
use Rattle.amqp_link.specs.Seats.{Joint}
use Rattle.amqp_link.specs.declared.connection.Connection.{Connection}

abbrev pub connection_view : Connection → Joint
connection_view connection = record { client = seat_view connection.client; server = seat_view connection.server }
