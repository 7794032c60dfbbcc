use Rattle.std.proofs.Common.{refl}
use Rattle.std.proofs.lemmas.Bool.{true≢false}
use Rattle.std.proofs.Common.{sym, ◌+◌}
use Rattle.amqp_outbox.proofs.PiecesPasses.{round-lends, round-idles, row-lends, row-idles, not-less}
use Rattle.amqp_outbox.proofs.ring.Ring.pass.Goals as goal

pub returns-in-Some-clause-round : goal.returns-in-Some-clause-round
returns-in-Some-clause-round c = round-lends c.args.self.now c.queue_at-queue.result.now c.requires.round c.requires.within c.queue_at-queue.ensures

pub returns-in-Some-clause-row : goal.returns-in-Some-clause-row
returns-in-Some-clause-row c =
    row-lends c.one_row.ensures.one c.one_row.ensures.made c.args.self.now c.queue_at-queue.result.now c.in-Some.chunk.now c.requires.round c.requires.within c.queue_at-queue.ensures
    (c.in-Some.ensures.variant.0 refl) c.in-Some.ensures.lookup

pub returns-in-None-clause-round : goal.returns-in-None-clause-round
returns-in-None-clause-round c =
    round-idles c.args.self.now c.queue_at-queue.result.now c.requires.round c.requires.within c.requires.left c.queue_at-queue.ensures (not-less _ _ (λ h. true≢false (sym (c.in-None.ensures.variant.1 h))))

pub returns-in-None-clause-row : goal.returns-in-None-clause-row
returns-in-None-clause-row c = (
  row-idles c.one_row.ensures.one c.one_row.ensures.made c.args.self.now c.queue_at-queue.result.now (c.args.self.now.idle + 1) c.requires.round c.requires.within c.queue_at-queue.ensures
      (not-less _ _ (λ h. true≢false (sym (c.in-None.ensures.variant.1 h)))),
  refl,
)
