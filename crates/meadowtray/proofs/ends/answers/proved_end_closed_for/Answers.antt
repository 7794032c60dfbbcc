use Rattle.std.proofs.Common.{Some, refl}
use Rattle.amqp_handle.specs.declared.kept.HeldEnd.TheVariants.{Client, Server}
use Rattle.amqp_calls.specs.Hearing.{CausesEnd}
use Rattle.meadowtray.proofs.KeptEnds.{of_held}
use Rattle.meadowtray.proofs.ends.answers.proved_end_closed_for.Goals as goal

pub returns-in-Client : goal.returns-in-Client
returns-in-Client c =
    of_held (λ held. CausesEnd held c.tell_cause.result c.tell_cause.new.out (Some (Client c.in-Client.kept)))
    c.args.slot.now c.is_open.new.self c.held.result.now (Client c.in-Client.kept) c.is_open.ensures.1 c.held.ensures.value c.in-Client.is (c.tell_cause.ensures, refl)

pub returns-in-Server : goal.returns-in-Server
returns-in-Server c =
    of_held (λ held. CausesEnd held c.tell_cause-in-Server.result c.tell_cause-in-Server.new.out (Some (Server c.in-Server.kept)))
    c.args.slot.now c.is_open.new.self c.held.result.now (Server c.in-Server.kept) c.is_open.ensures.1 c.held.ensures.value c.in-Server.is (c.tell_cause-in-Server.ensures, refl)
