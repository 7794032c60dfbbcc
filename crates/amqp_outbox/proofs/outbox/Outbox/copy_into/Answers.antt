use Rattle.std.proofs.Common.{ap, ◌∙◌}
use Rattle.amqp_model.specs.Output.Outputs.{after_puts}
use Rattle.amqp_outbox.specs.OutboxFields.{row_of}
use Rattle.amqp_outbox.specs.OutboxView.{Outgoing, only, with_staged, all_put}
use Rattle.amqp_outbox.proofs.OutboxHanding.{octets-lent, none-ahead, some-ahead}
use Rattle.amqp_outbox.proofs.OutboxMoves.{row-lent}
use Rattle.amqp_outbox.proofs.outbox.Outbox.copy_into.Goals as goal

pub stage_row-requires : goal.stage_row-requires
stage_row-requires c =
    let x = c.self.inside in
    (row_of x, row-lent x _ c.self.invariant c.deref.ensures.value, octets-lent x _ c.self.invariant c.deref-2.ensures.value, c.self.invariant.row_channels)

pub returns-then-self-clause-begun : goal.returns-then-self-clause-begun
returns-then-self-clause-begun c is none = some-ahead c.self.inside c.args.self.now c.self.invariant c.self.view_is c.if-self.true none

pub returns-clause-added : goal.returns-clause-added
returns-clause-added c =
    let x = c.self.inside in
    let staged = c.in-Ok.ensures.ok (row_of x) (row-lent x _ c.self.invariant c.deref.ensures.value) (octets-lent x _ c.self.invariant c.deref-2.ensures.value) in
    c.put.ensures
    ∙ (ap all_put (staged ∙ ap (λ (o : Outgoing). with_staged o (row_of x)) c.discard.ensures)
    ∙ ap (λ (o : Outgoing). only (after_puts o.output.row c.args.queue.now.output)) c.self.view_is)

pub returns-clause-none_begun : goal.returns-clause-none_begun
returns-clause-none_begun c = none-ahead c.self.inside c.args.self.now c.self.invariant c.self.view_is c.if-self.false
