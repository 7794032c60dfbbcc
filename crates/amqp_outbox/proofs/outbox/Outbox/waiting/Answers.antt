use Rattle.std.proofs.Common.{ap, ◌∙◌, arith}
use Rattle.amqp_outbox.specs.OutboxSlots.{slots_length}
use Rattle.amqp_outbox.proofs.OutboxMoves.{row-lent, row-within, waits-within, begun-waits, row-waits}
use Rattle.amqp_outbox.proofs.OutboxRows.{slots_length-row}
use Rattle.amqp_outbox.proofs.outbox.Outbox.waiting.Goals as goal

pub length_on-waiting-requires : goal.length_on-waiting-requires
length_on-waiting-requires c =
    let x = c.self.inside in
    let a = ap slots_length (row-lent x _ c.self.invariant c.deref.ensures.value) ∙ slots_length-row _ in
    let b = row-within x 0 c.self.invariant in
    omega arith

pub overflow_add-result : goal.overflow_add-result
overflow_add-result c =
    let x = c.self.inside in
    let a = waits-within x c.args.channel _ _ c.self.invariant (row-lent x _ c.self.invariant c.deref.ensures.value) c.length_on-waiting.ensures in
    omega arith

pub returns-then-self-channel : goal.returns-then-self-channel
returns-then-self-channel c =
    let x = c.self.inside in
    begun-waits x c.args.channel _ _ c.args.self.now c.self.invariant c.self.view_is (row-lent x _ c.self.invariant c.deref.ensures.value) c.length_on-waiting.ensures c.if-self-channel.true

pub returns : goal.returns
returns c =
    let x = c.self.inside in
    row-waits x c.args.channel _ _ c.args.self.now c.self.view_is (row-lent x _ c.self.invariant c.deref.ensures.value) c.length_on-waiting.ensures c.if-self-channel.false
