use Rattle.std.proofs.Common.{Some}
use Rattle.amqp_handle.specs.declared.kept.HeldEnd.TheVariants.{Client, Server}
use Rattle.amqp_calls.specs.LentContents.{LendsEnd}
use Rattle.meadowtray.proofs.KeptEnds.{of_held}
use Rattle.meadowtray.proofs.ends.asking.proved_end_lend_content.Goals as goal

pub returns-in-Client : goal.returns-in-Client
returns-in-Client c =
    let w = c.lend_with in
    of_held (λ held. LendsEnd held c.args.content.now.value c.args.channel c.args.method.now c.args.header.now c.args.body.now c.args.pieces.now w.result w.new.count w.new.pieces (Some (Client w.new.kept)))
    c.args.slot.now c.is_open.new.self c.held.result.now (Client c.in-Client.kept) c.is_open.ensures.1 c.held.ensures.value c.in-Client.is (w.ensures, λ none. absurd cc)

pub returns-in-Server : goal.returns-in-Server
returns-in-Server c =
    let w = c.lend_with-in-Server in
    of_held (λ held. LendsEnd held c.args.content.now.value c.args.channel c.args.method.now c.args.header.now c.args.body.now c.args.pieces.now w.result w.new.count w.new.pieces (Some (Server w.new.kept)))
    c.args.slot.now c.is_open.new.self c.held.result.now (Server c.in-Server.kept) c.is_open.ensures.1 c.held.ensures.value c.in-Server.is (w.ensures, λ none. absurd cc)
