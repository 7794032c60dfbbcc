use Rattle.std.proofs.Common.{sym}
use Rattle.amqp_core.proofs.GreetingLemmas.{client-length, server-length}
use Rattle.amqp_core.proofs.settings.Hello.greeting_length.Goals as goal

pub returns-in-Client : goal.returns-in-Client
returns-in-Client c = client-length c.args.self.now c.in-Client.hello c.start_ok_length.result c.in-Client.is (rw (sym c.deref.ensures.value) c.start_ok_length.ensures)

pub returns-in-Server : goal.returns-in-Server
returns-in-Server c = server-length c.args.self.now _ _ c.in-Server.is c.start_length.ensures
