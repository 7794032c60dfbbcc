use Rattle.std.proofs.Common.{◌-◌, ◌<◌, inl, inr, length, take, All, refl, ap, ◌∙◌, arith}
use Rattle.amqp_outbox.specs.declared.queues.Queue.{Queue}
use Rattle.std.proofs.lemmas.List.{get_or_default}
use Rattle.amqp_outbox.proofs.PiecesStay.{below-in, after-in, within-in, stay-insert, kept-insert, kept-same}
use Rattle.amqp_outbox.proofs.queues.queue_of.Goals as goal
use Rattle.amqp_outbox.proofs.queues.queue_of.Goals.{else-end-gt0-via-then-end-gt0+else-index-channel, else-end-gt0-via-else-end-gt0}

pub returns-in_default-clause-kept : goal.returns-in_default-clause-kept
returns-in_default-clause-kept c = kept-same _ _ c.in_default.ensures.items

-- the queues before the place are of lower channels
lower : (c : goal.In-Ok) → All (λ (q : Queue). q.channel < c.args.channel) (take c.count_up_to-end.result c.args.queues.now.items)
lower c = below-in c.args.channel c.count_up_to-end.result c.args.queues.now.items c.deref.result.now c.deref.ensures.value c.requires.ascends c.count_up_to-end.ensures.within c.count_up_to-end.ensures.up_to
    (elim c.else-end-gt0.branch [
      | else-end-gt0-via-then-end-gt0+else-index-channel w ↦ inr (λ d e.
          let n = ap length c.deref.ensures.value in
          let m = c.count_up_to-end.ensures.within in
          let some = w.if-end-gt0.true in
          w.if-index-channel.false (ap (λ (q : Queue). q.channel) (w.index.ensures ∙ get_or_default c.args.queues.now.items (c.count_up_to-end.result - 1) w.index.result.now d (omega arith)) ∙ e))
      | else-end-gt0-via-else-end-gt0 w ↦ inl (omega arith)
    ])

pub returns-clause-stay : goal.returns-clause-stay
returns-clause-stay c =
    stay-insert c.args.channel c.count_up_to-end.result _ _ _ c.in-Ok.ensures.items c.requires.above c.ranges.channel.fits c.requires.ascends (lower c)
    (after-in _ _ _ _ c.deref.ensures.value c.count_up_to-end.ensures.after) refl c.new.ensures.items

pub returns-clause-kept : goal.returns-clause-kept
returns-clause-kept c =
    kept-insert c.args.channel c.count_up_to-end.result _ _ _ c.in-Ok.ensures.items c.requires.above (within-in _ _ _ c.deref.ensures.value c.count_up_to-end.ensures.within) (lower c)
    (after-in _ _ _ _ c.deref.ensures.value c.count_up_to-end.ensures.after) refl c.new.ensures.len
