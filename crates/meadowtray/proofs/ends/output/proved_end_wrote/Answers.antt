use Rattle.std.proofs.Common.{Some}
use Rattle.amqp_handle.specs.declared.kept.HeldEnd.TheVariants.{Client, Server}
use Rattle.amqp_calls.specs.EndAnswers.{WritesEnd}
use Rattle.meadowtray.proofs.KeptEnds.{of_held}
use Rattle.meadowtray.proofs.ends.output.proved_end_wrote.Goals as goal

pub returns-in-Client : goal.returns-in-Client
returns-in-Client c =
    of_held (λ held. WritesEnd held c.args.octets c.wrote.result (Some (Client c.wrote.new.kept)))
    c.args.slot.now c.is_open.new.self c.held.result.now (Client c.in-Client.kept) c.is_open.ensures.1 c.held.ensures.value c.in-Client.is c.wrote.ensures

pub returns-in-Server : goal.returns-in-Server
returns-in-Server c =
    of_held (λ held. WritesEnd held c.args.octets c.wrote-in-Server.result (Some (Server c.wrote-in-Server.new.kept)))
    c.args.slot.now c.is_open.new.self c.held.result.now (Server c.in-Server.kept) c.is_open.ensures.1 c.held.ensures.value c.in-Server.is c.wrote-in-Server.ensures
