use Rattle.std.proofs.Common.{Some, refl}
use Rattle.amqp_handle.specs.declared.kept.HeldEnd.TheVariants.{Client, Server}
use Rattle.amqp_calls.specs.Hearing.{HearsEnd}
use Rattle.meadowtray.proofs.KeptEnds.{of_held}
use Rattle.meadowtray.proofs.ends.answers.proved_end_heard.Goals as goal

pub returns-in-Client : goal.returns-in-Client
returns-in-Client c =
    of_held (λ held. HearsEnd held c.args.kind c.args.room.now c.write_kind.result c.write_kind.new.out c.write_kind.new.room (Some (Client c.in-Client.kept)))
    c.args.slot.now c.is_open.new.self c.held.result.now (Client c.in-Client.kept) c.is_open.ensures.1 c.held.ensures.value c.in-Client.is ((c.write_kind.ensures, refl), λ none. absurd cc)

pub returns-in-Server : goal.returns-in-Server
returns-in-Server c =
    of_held (λ held. HearsEnd held c.args.kind c.args.room.now c.write_kind-in-Server.result c.write_kind-in-Server.new.out c.write_kind-in-Server.new.room (Some (Server c.in-Server.kept)))
    c.args.slot.now c.is_open.new.self c.held.result.now (Server c.in-Server.kept) c.is_open.ensures.1 c.held.ensures.value c.in-Server.is ((c.write_kind-in-Server.ensures, refl), λ none. absurd cc)
