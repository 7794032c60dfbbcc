use Rattle.std.proofs.Common.{Some}
use Rattle.amqp_handle.specs.declared.kept.HeldEnd.TheVariants.{Client, Server}
use Rattle.amqp_calls.specs.EndAsks.{ControlsEnd}
use Rattle.meadowtray.proofs.KeptEnds.{of_held}
use Rattle.meadowtray.proofs.ends.asking.proved_end_control.Goals as goal

pub returns-in-Client : goal.returns-in-Client
returns-in-Client c =
    of_held (λ held. ControlsEnd held c.args.given.now c.control_one.result (Some (Client c.control_one.new.kept)))
    c.args.slot.now c.is_open.new.self c.held.result.now (Client c.in-Client.kept) c.is_open.ensures.1 c.held.ensures.value c.in-Client.is c.control_one.ensures

pub returns-in-Server : goal.returns-in-Server
returns-in-Server c =
    of_held (λ held. ControlsEnd held c.args.given.now c.control_one-in-Server.result (Some (Server c.control_one-in-Server.new.kept)))
    c.args.slot.now c.is_open.new.self c.held.result.now (Server c.in-Server.kept) c.is_open.ensures.1 c.held.ensures.value c.in-Server.is c.control_one-in-Server.ensures
