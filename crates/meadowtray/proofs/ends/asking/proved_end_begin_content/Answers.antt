use Rattle.std.proofs.Common.{Some}
use Rattle.amqp_handle.specs.declared.kept.HeldEnd.TheVariants.{Client, Server}
use Rattle.amqp_calls.specs.BegunContents.{BeginsEnd}
use Rattle.meadowtray.proofs.KeptEnds.{of_held}
use Rattle.meadowtray.proofs.ends.asking.proved_end_begin_content.Goals as goal

pub returns-in-Client : goal.returns-in-Client
returns-in-Client c =
    of_held (λ held. BeginsEnd held c.args.content.now.value c.args.channel c.args.method.now c.args.header.now c.begin_with.result (Some (Client c.begin_with.new.kept)) c.begin_with.new.slot.value)
    c.args.slot.now c.is_open.new.self c.held.result.now (Client c.in-Client.kept) c.is_open.ensures.1 c.held.ensures.value c.in-Client.is (c.begin_with.ensures, λ none. absurd cc)

pub returns-in-Server : goal.returns-in-Server
returns-in-Server c =
    of_held (λ held. BeginsEnd held c.args.content.now.value c.args.channel c.args.method.now c.args.header.now c.begin_with-in-Server.result (Some (Server c.begin_with-in-Server.new.kept)) c.begin_with-in-Server.new.slot.value)
    c.args.slot.now c.is_open.new.self c.held.result.now (Server c.in-Server.kept) c.is_open.ensures.1 c.held.ensures.value c.in-Server.is (c.begin_with-in-Server.ensures, λ none. absurd cc)
