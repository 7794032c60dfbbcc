-- Where a frame doesn't pass, the end is as it was, and the rules are asked.
use Rattle.std.proofs.Common.{refl, subst}
use Rattle.amqp_frame.specs.Frame.{lent}
use Rattle.amqp_core.specs.Connection.Receiving.{Receives}
use Rattle.amqp_core.specs.declared.account.Account.{Account}
use Rattle.amqp_core.specs.declared.connection.Connection.{Connection}
use Rattle.amqp_core.specs.declared.heard.Heard.{Heard}
use Rattle.amqp_core.proofs.connection.Connection.receive_said.Goals as goal

pub returns-clause-receives : goal.returns-clause-receives
returns-clause-receives c =
    let frame = lent c.args.frame in
    let output = c.args.outbox.now.output in
    let after = c.receive_by_rules-answer in
    subst (λ (s : Connection). Receives s output c.args.account.now c.args.heard.now frame after.result after.new.self after.new.outbox after.new.account after.new.heard)
    (c.in_default.ensures.none refl)
    (subst (λ (a : Account). Receives c.pass.new.self output a c.args.heard.now frame after.result after.new.self after.new.outbox after.new.account after.new.heard)
    (c.in_default.ensures.none_told refl)
    (subst (λ (h : Heard). Receives c.pass.new.self output c.pass.new.account h frame after.result after.new.self after.new.outbox after.new.account after.new.heard)
    (c.in_default.ensures.none_heard refl) after.ensures.receives))
