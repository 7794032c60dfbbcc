use Rattle.std.proofs.Common.{rules, ◌≡◌, ◌<◌, ◌++◌, min, map, length, ap, ◌∙◌, arith}
use Rattle.std.proofs.lemmas.List.{nil_from_length}
use Rattle.amqp_model.specs.Wire.Contents.{pieces}
use Rattle.amqp_outbox.specs.OutboxFrames.{body_frame}
use Rattle.amqp_outbox.specs.OutboxView.{Outgoing}
use Rattle.amqp_core.proofs.PieceLemmas.{part_staged, all_staged}
use Rattle.amqp_core.proofs.sending.stage_parts.Goals as goal

pub loop-rest-preserved : goal.loop-rest-preserved
loop-rest-preserved c =
    let more : 0 < length c.loop-rest.rest.now = search rules in
    let size_is : c.min-size.result ≡ min (length c.loop-rest.rest.now) c.args.room = omega arith in
    let staged = λ (o : Outgoing). o.staged ++ map (body_frame c.args.channel) (pieces c.args.room c.split_at.result.1.now) in
    record {
      output = ap (λ (o : Outgoing). o.output) c.in-Ok.ensures.ok ∙ c.loop-rest.invariant.output;
      frames = ap staged c.in-Ok.ensures.ok ∙ (part_staged c.loop-rest.outbox.staged c.args.channel c.args.room c.min-size.result c.loop-rest.rest.now _ _
          c.requires more size_is c.split_at.ensures.front c.split_at.ensures.back ∙ c.loop-rest.invariant.frames);
    }

pub returns-clause-ok : goal.returns-clause-ok
returns-clause-ok c =
    let empty : length c.loop-rest.rest.now ≡ 0 = search rules in
    all_staged c.loop-rest.outbox c.args.outbox.now c.args.channel c.args.room c.loop-rest.rest.now c.args.body.now c.requires
    (nil_from_length c.loop-rest.rest.now empty) c.loop-rest.invariant.output c.loop-rest.invariant.frames
