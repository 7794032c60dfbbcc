use Rattle.std.proofs.Common.{◌≡◌, ◌-◌, length, refl, ◌∙◌, arith, subst}
use Rattle.amqp_outbox.specs.OutboxView.{Outgoing}
use Rattle.amqp_outbox.specs.PiecesFields.{outgoing_in}
use Rattle.amqp_outbox.specs.PiecesQueues.{row_of_queues}
use Rattle.amqp_outbox.specs.PiecesWrites.{GoesOn}
use Rattle.amqp_outbox.proofs.PiecesWrites.{begun-written, nothing-left}
use Rattle.amqp_outbox.proofs.send_queue.SendQueue.go_on.Goals as goal

pub returns : goal.returns
returns c =
    let x = c.self.inside in
    let fits = x.ahead.ok.0 in
    let a : c.len.result ≡ length x.ahead.items = c.len.ensures ∙ fits in
    let b : c.len-self-inside.result ≡ length x.ahead.items = c.len-self-inside.ensures ∙ fits in
    let w = c.self.invariant.written in
    let t = c.if-octets-ahead.false in
    let first = begun-written c.args.octets x.written x.begun_on x.last x.ahead.items (row_of_queues x.last x.queues) w (omega arith) in
    subst (λ (old : Outgoing). GoesOn c.args.octets (c.args.octets - (c.len.result - x.written)) old (outgoing_in (record x { written = c.len-self-inside.result }))) c.self.view_is
    (record {
      staged = refl;
      left = rw (a, b) first;
      ended = λ h. rw b (nothing-left (length x.ahead.items) x.ahead.items (omega arith));
    })
