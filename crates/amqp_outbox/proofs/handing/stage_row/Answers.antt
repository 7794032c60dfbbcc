use Rattle.std.proofs.Common.{ap, ◌∙◌}
use Rattle.amqp_outbox.specs.OutboxView.{Outgoing}
use Rattle.amqp_outbox.proofs.OutboxHanding.{frame-within, back-is, next-frame, frame-adds}
use Rattle.amqp_outbox.proofs.handing.stage_row.Goals as goal

pub split_at-requires : goal.split_at-requires
split_at-requires c =
    let r = c.requires in
    frame-within c.args.row.now r.0 c.loop-waiting.waiting-index _ _ _ r.1 c.loop-waiting-test.true (c.loop-waiting.invariant.rest r.0 r.1 r.2) c.length.ensures

pub stage-requires : goal.stage-requires
stage-requires c =
    let r = c.requires in
    next-frame c.args.row.now r.0 c.loop-waiting.waiting-index c.length.result _ c.loop-waiting.rest.now c.split_at.result.0.now r.1 c.loop-waiting-test.true (c.loop-waiting.invariant.rest r.0 r.1 r.2)
    c.length.ensures c.split_at.ensures.front r.3

pub loop-waiting-preserved : goal.loop-waiting-preserved
loop-waiting-preserved c =
    let r = c.requires in
    let i = c.loop-waiting.invariant in
    let next = next-frame c.args.row.now r.0 c.loop-waiting.waiting-index c.length.result _ c.loop-waiting.rest.now c.split_at.result.0.now r.1 c.loop-waiting-test.true (i.rest r.0 r.1 r.2)
    c.length.ensures c.split_at.ensures.front r.3 in
    record {
      output = ap (λ (o : Outgoing). o.output) (c.in_ok-stage.ensures.ok next.0 next.1 next.2) ∙ i.output;
      rest = λ frames e o. back-is c.args.row.now frames c.loop-waiting.waiting-index c.length.result _ c.loop-waiting.rest.now c.split_at.result.1.now e c.loop-waiting-test.true (i.rest frames e o)
          c.length.ensures c.split_at.ensures.back;
      staged = λ frames e o. frame-adds c.args.queue.now c.loop-waiting.queue c.stage.new.self c.args.row.now frames c.loop-waiting.waiting-index c.length.result _ c.loop-waiting.rest.now c.split_at.result.0.now e
          c.loop-waiting-test.true (i.rest frames e o) c.length.ensures c.split_at.ensures.front (i.staged frames e o) c.in_ok-stage.ensures.ok;
    }
