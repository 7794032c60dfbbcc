use Rattle.std.proofs.Common.{refl, sym, ◌∙◌, arith}
use Rattle.std.proofs.lemmas.Bool.{true≢false}
use Rattle.amqp_outbox.proofs.PiecesWaiting.{chunks-next, chunks-most}
use Rattle.amqp_outbox.proofs.queues.length_of.Goals as goal
use Rattle.amqp_outbox.proofs.queues.length_of.Goals.{in-Some, in_default}

pub overflow_add-total : goal.overflow_add-total
overflow_add-total c =
    let l = c.args.frames.now.ok.0 in
    let h = c.in-Some.ensures.variant.0 refl in
    let m = chunks-most c.args.frames.now.items _ _ c.len-total.result c.in-Some.chunk.now c.requires.chunks (omega arith) c.in-Some.ensures.lookup c.loop-at.invariant (let e = c.len-total.ensures in omega arith) in
    let f = c.requires.fits in
    omega arith

pub loop-at-preserved : goal.loop-at-preserved
loop-at-preserved c =
    elim c.match-get.branch [
      | in-Some w ↦
          let l = c.args.frames.now.ok.0 in
          let h = w.in-Some.ensures.variant.0 refl in
          w.total-is ∙ chunks-next c.args.frames.now.items _ _ w.len-total.result w.in-Some.chunk.now c.requires.chunks (omega arith) w.in-Some.ensures.lookup c.loop-at.invariant (let e = w.len-total.ensures in omega arith)
      | in_default w ↦ absurd (true≢false (sym (w.in_default.ensures.variant.1 (omega arith))))
    ]
