use Rattle.std.proofs.Common.{Some, refl}
use Rattle.amqp_handle.specs.declared.kept.HeldEnd.TheVariants.{Client, Server}
use Rattle.amqp_calls.specs.Hearing.{ForgetsEnd}
use Rattle.meadowtray.proofs.KeptEnds.{of_held}
use Rattle.meadowtray.proofs.ends.answers.proved_end_forget_heard.Goals as goal

pub returns-in-Client : goal.returns-in-Client
returns-in-Client c =
    of_held (λ held. ForgetsEnd held 0 (Some (Client c.forget.new.kept)))
    c.args.slot.now c.is_open.new.self c.held.result.now (Client c.in-Client.kept) c.is_open.ensures.1 c.held.ensures.value c.in-Client.is (refl, c.forget.ensures)

pub returns-in-Server : goal.returns-in-Server
returns-in-Server c =
    of_held (λ held. ForgetsEnd held 0 (Some (Server c.forget-in-Server.new.kept)))
    c.args.slot.now c.is_open.new.self c.held.result.now (Server c.in-Server.kept) c.is_open.ensures.1 c.held.ensures.value c.in-Server.is (refl, c.forget-in-Server.ensures)
