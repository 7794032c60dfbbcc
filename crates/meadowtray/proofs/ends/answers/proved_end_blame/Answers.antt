use Rattle.std.proofs.Common.{Some, refl}
use Rattle.amqp_handle.specs.declared.kept.HeldEnd.TheVariants.{Client, Server}
use Rattle.amqp_calls.specs.Blaming.{BlamesEnd}
use Rattle.meadowtray.proofs.KeptEnds.{of_held}
use Rattle.meadowtray.proofs.ends.answers.proved_end_blame.Goals as goal

pub returns-in-Client : goal.returns-in-Client
returns-in-Client c =
    of_held (λ held. BlamesEnd held c.tell_blame.result c.tell_blame.new.out (Some (Client c.in-Client.kept)))
    c.args.slot.now c.is_open.new.self c.held.result.now (Client c.in-Client.kept) c.is_open.ensures.1 c.held.ensures.value c.in-Client.is (c.tell_blame.ensures, refl)

pub returns-in-Server : goal.returns-in-Server
returns-in-Server c =
    of_held (λ held. BlamesEnd held c.tell_blame-in-Server.result c.tell_blame-in-Server.new.out (Some (Server c.in-Server.kept)))
    c.args.slot.now c.is_open.new.self c.held.result.now (Server c.in-Server.kept) c.is_open.ensures.1 c.held.ensures.value c.in-Server.is (c.tell_blame-in-Server.ensures, refl)
