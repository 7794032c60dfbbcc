use Rattle.std.proofs.Common.{refl, ap, ◌∙◌}
use Rattle.amqp_outbox.specs.declared.queues.Queue.{Queue}
use Rattle.amqp_outbox.proofs.PiecesStay.{stay-set, kept-set, made-set}
use Rattle.amqp_outbox.proofs.queues.make_room_on.Goals as goal

pub returns-in_err-reserve-clause-stay : goal.returns-in_err-reserve-clause-stay
returns-in_err-reserve-clause-stay c =
    stay-set _ _ _ c.index_mut-queue.result.now _ c.in_ok-at.ensures.stay c.in_ok-at.ensures.found.0 c.index_mut-queue.ensures.value refl c.in_err-reserve.ensures.items

pub returns-in_err-reserve-clause-kept : goal.returns-in_err-reserve-clause-kept
returns-in_err-reserve-clause-kept c =
    kept-set _ _ _ c.index_mut-queue.result.now _ c.in_ok-at.ensures.kept c.in_ok-at.ensures.found.0 c.index_mut-queue.ensures.value refl c.in_err-reserve.ensures.len c.in_err-reserve.ensures.capacity

pub returns-clause-stay : goal.returns-clause-stay
returns-clause-stay c =
    stay-set _ _ _ c.index_mut-queue.result.now _ c.in_ok-at.ensures.stay c.in_ok-at.ensures.found.0 c.index_mut-queue.ensures.value refl c.in_ok-reserve.ensures.items

pub returns-clause-kept : goal.returns-clause-kept
returns-clause-kept c =
    kept-set _ _ _ c.index_mut-queue.result.now _ c.in_ok-at.ensures.kept c.in_ok-at.ensures.found.0 c.index_mut-queue.ensures.value refl c.in_ok-reserve.ensures.len c.in_ok-reserve.ensures.capacity

pub returns-clause-made : goal.returns-clause-made
returns-clause-made c =
    let q = c.index_mut-queue.result.now in
    made-set _ _ _ _ _ q _ c.in_ok-at.ensures.kept c.in_ok-at.ensures.stay.ascends c.in_ok-at.ensures.found.0 c.index_mut-queue.ensures.value refl
    (ap (λ (x : Queue). x.channel) c.index_mut-queue.ensures.value ∙ c.in_ok-at.ensures.found.1 q) c.requires.above c.in_ok-reserve.ensures.ok
