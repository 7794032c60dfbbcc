-- Where a frame doesn't pass, the end is as it was, and takes it the longer way.
use Rattle.std.proofs.Common.{◌≡◌, IfOk, Option, refl, subst}
use Rattle.amqp_frame.specs.Frame.{Frame, lent}
use Rattle.amqp_core.specs.Connection.Receiving.{lent_by, ReceivesLent}
use Rattle.amqp_core.specs.Stream.StepView.{came_lent}
use Rattle.amqp_core.specs.declared.endpoint.Endpoint.{Endpoint}
use Rattle.amqp_core.specs.declared.heard.Heard.{Heard}
use Rattle.amqp_core.proofs.endpoint.Endpoint.take_frame.Goals as goal

pub returns-clause-receives : goal.returns-clause-receives
returns-clause-receives c =
    let frame = lent c.args.frame in
    let after = c.take_lent-answer in
    subst (λ (s : Endpoint). ReceivesLent s.connection s.outbox.output c.args.heard.now frame after.result after.new.self after.new.outbox after.new.heard)
    (c.in_default.ensures.none refl)
    (subst (λ (h : Heard). ReceivesLent c.pass_by_kind.new.self.connection c.pass_by_kind.new.self.outbox.output h frame after.result after.new.self after.new.outbox after.new.heard)
    (c.in_default.ensures.none_heard refl) after.ensures.receives)

pub returns-clause-told : goal.returns-clause-told
returns-clause-told c =
    let frame = lent c.args.frame in
    subst (λ (s : Endpoint). IfOk c.take_lent-answer.result (λ step. (given : Option Frame) → came_lent step.came given
    ≡ lent_by s.connection frame))
    (c.in_default.ensures.none refl) c.take_lent-answer.ensures.told
