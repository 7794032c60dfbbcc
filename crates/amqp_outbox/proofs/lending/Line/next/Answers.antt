use Rattle.std.proofs.Common.{refl, arith}
use Rattle.amqp_outbox.proofs.PiecesLeft.{chunk-lends}
use Rattle.amqp_outbox.proofs.lending.Line.next.Goals as goal

pub returns-clause-left : goal.returns-clause-left
returns-clause-left c =
    let l = c.args.self.now.frames.now.ok.0 in
    let h = c.in_ok-chunk.ensures.variant.0 refl in
    chunk-lends c.args.self.now.frames.now.items c.args.self.now.lent c.in_ok-chunk.chunk.now c.deref.result.now c.requires (omega arith) c.in_ok-chunk.ensures.lookup c.deref.ensures.value
