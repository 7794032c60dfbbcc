use Rattle.std.proofs.Common.{◌≤◌, length, drop, sym, ap, ◌∙◌, arith, length-append}
use Rattle.amqp_outbox.specs.LentFrames.{content_left}
use Rattle.amqp_outbox.proofs.LentBraids.{drop-past}
use Rattle.amqp_outbox.proofs.lent.ContentFrames.wrote.Goals as goal

pub loop-left-preserved : goal.loop-left-preserved
loop-left-preserved c =
    let piece = c.in-Some.piece.now in
    let new = content_left c.next_piece.new.self in
    let lent = c.in-Some.ensures.lent.0 in
    let within = c.loop-left.invariant.within in
    let sum = ap length lent ∙ length-append piece new in
    let past : length piece ≤ c.loop-left.left = omega arith in
    record {
      left = sym (drop-past piece new c.loop-left.left past) ∙ (ap (drop c.loop-left.left) (sym lent) ∙ c.loop-left.invariant.left);
      within = omega (arith, sum, within, past);
    }
