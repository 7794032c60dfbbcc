-- How a socket keeps what callers see of it.
use Rattle.amqp_io.specs.Sockets.{Connected}
use Rattle.amqp_io.specs.declared.socket.Socket.TheInside.{Inside}

abbrev pub connected_of : Inside → Connected
connected_of socket = record {
  stream = socket.stream;
  failure = socket.failure;
  failures = socket.failures;
  ends = socket.ends;
}
