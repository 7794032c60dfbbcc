use Rattle.std.proofs.Common.{◌≡◌, [], refl, ap, ◌∙◌, arith}
use Rattle.amqp_frame.specs.Splitting.{stream}
use Rattle.amqp_outbox.specs.BodyToCome.{rest_framed}
use Rattle.amqp_outbox.proofs.BodyParts.{frames_none}
use Rattle.amqp_outbox.proofs.body.BodyWriter.left.Goals as goal

pub returns-clause-all : goal.returns-clause-all
returns-clause-all c = λ none.
    let writer = c.args.self.now in
    let within = writer.within in
    let begun : writer.begun ≡ 0 = omega arith in
    ap (λ n. rest_framed writer.channel writer.room n []) begun ∙ ap stream (frames_none writer.channel writer.room [] writer.cuts refl)
