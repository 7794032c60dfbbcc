use Rattle.std.proofs.Common.{◌∙◌, arith}
use Rattle.amqp_outbox.proofs.PiecesBegun.{row-ended}
use Rattle.amqp_outbox.proofs.ring.Ring.next.Goals as goal

pub returns-clause-row : goal.returns-clause-row
returns-clause-row c =
    let i = c.loop-self.invariant in
    let n = i.2 in
    let t = c.loop-self-test.false in
    let e = row-ended c.loop-self.self i.0 (omega arith) in
    (i.1 ∙ e, e)
