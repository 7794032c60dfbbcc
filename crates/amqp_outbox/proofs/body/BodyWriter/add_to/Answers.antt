use Rattle.std.proofs.Common.{◌≡◌, ◌+◌, ◌-◌, ◌/◌, ◌≤◌, length, ap, arith}
use Rattle.amqp_outbox.proofs.BodyToCome.{rest_length}
use Rattle.amqp_outbox.proofs.body.BodyWriter.add_to.Goals as goal

pub returns : goal.returns
returns c = λ body sized.
    let writer = c.args.self.now in
    let a : writer.begun ≤ length body = let w = writer.within in omega arith in
    let frames : (writer.left - writer.begun + writer.room - 1) / writer.room ≡ (length body - writer.begun + writer.room - 1) / writer.room =
    ap (λ n. (n - writer.begun + writer.room - 1) / writer.room) (omega arith) in
    let b = rest_length writer.channel writer.room writer.begun c.min-ends.result body writer.cuts a c.min-ends.ensures in
    let d = c.frames_of-frames.ensures in
    let e = c.saturating_mul-around.ensures in
    let f = c.saturating_add.ensures in
    let g = c.saturating_add-2.ensures in
    let h = c.saturating_add-3.ensures in
    omega (arith, frames, a, b, d, e, f, g, h)
