use Rattle.std.proofs.Common.{Some}
use Rattle.amqp_handle.specs.declared.kept.HeldEnd.TheVariants.{Client, Server}
use Rattle.amqp_calls.specs.EndAsks.{AsksEnd}
use Rattle.meadowtray.proofs.KeptEnds.{of_held}
use Rattle.meadowtray.proofs.ends.asking.proved_end_ask.Goals as goal

pub returns-in-Client : goal.returns-in-Client
returns-in-Client c =
    of_held (λ held. AsksEnd held c.args.given.now c.ask_one.result c.ask_one.new.channel (Some (Client c.ask_one.new.kept)))
    c.args.slot.now c.is_open.new.self c.held.result.now (Client c.in-Client.kept) c.is_open.ensures.1 c.held.ensures.value c.in-Client.is c.ask_one.ensures

pub returns-in-Server : goal.returns-in-Server
returns-in-Server c =
    of_held (λ held. AsksEnd held c.args.given.now c.ask_one-in-Server.result c.ask_one-in-Server.new.channel (Some (Server c.ask_one-in-Server.new.kept)))
    c.args.slot.now c.is_open.new.self c.held.result.now (Server c.in-Server.kept) c.is_open.ensures.1 c.held.ensures.value c.in-Server.is c.ask_one-in-Server.ensures
