use Rattle.amqp_outbox.specs.LentFrames.{content_left}
use Rattle.amqp_calls.specs.declared.ends.slices.Piece.{Piece}
use Rattle.amqp_calls.proofs.PlacedPieces.{one_placed}
use Rattle.amqp_calls.proofs.ends.slices.place.Goals as goal

pub loop-placed-preserved : goal.loop-placed-preserved
loop-placed-preserved c =
    let piece : Piece = record { octets = c.in-Some.octets } in
    one_placed (content_left c.args.frames) c.args.pieces.now c.loop-placed.pieces c.loop-placed.placed (content_left c.loop-placed.left) piece (content_left c.next_piece.new.self)
    c.loop-placed.invariant c.loop-placed-test.true c.in-Some.ensures.lent.0
