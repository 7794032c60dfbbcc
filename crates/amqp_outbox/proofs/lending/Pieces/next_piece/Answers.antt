use Rattle.std.proofs.Common.{◌≡◌, [], length, sym, ◌∙◌, eqb-true}
use Rattle.amqp_outbox.specs.PiecesLent.{left_in}
use Rattle.amqp_outbox.specs.PiecesRing.{row_in}
use Rattle.amqp_outbox.proofs.PiecesLeft.{channel-lends, no-octets}
use Rattle.amqp_outbox.proofs.lending.Pieces.next_piece.Goals as goal

pub returns-in-Some-next : goal.returns-in-Some-next
returns-in-Some-next c =
    let x = c.self.inside in
    let none : x.ahead.now ≡ [] = no-octets x.ahead.now (eqb-true (length x.ahead.now) 0 (sym c.is_empty.ensures ∙ c.if-not-is_empty.false)) in
    let left = c.in_default.ensures.left in
    let row = c.in-Some-next.ensures.row in
    let r = channel-lends x.ahead.now (left_in x.plain) (left_in c.next.new.self) (left_in x.leaving) (row_in x.channels) (row_in c.next-2.new.self) c.in-Some-next.chunk.now c.deref.result.now none left.0 left.1 row.0 row.1 c.deref.ensures.value in
    (sym c.self.view_is ∙ r.0, r.1)
