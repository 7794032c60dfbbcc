use Rattle.std.proofs.Common.{refl, ap, ◌∙◌, arith}
use Rattle.amqp_outbox.specs.declared.slots.Slot.{Slot}
use Rattle.amqp_outbox.proofs.PiecesRoom.{make-leaving, make-plain, make-above}
use Rattle.amqp_outbox.proofs.PiecesWrites.{if-ok}
use Rattle.amqp_outbox.proofs.queues.Queues.make_room.Goals as goal

pub returns-then-slot-clause-made : goal.returns-then-slot-clause-made
returns-then-slot-clause-made c staged chunk is few r =
    make-leaving c.args.self.now _ c.args.more staged chunk c.requires.sound refl refl c.in_ok-reserve.ensures.ok (ap (λ (s : Slot). s.leaving) is ∙ c.if-slot.true)
    (ap (λ (s : Slot). s.channel) is ∙ c.requires.zero c.if-slot.true) few r

pub returns-then-slot-eq0-clause-made : goal.returns-then-slot-eq0-clause-made
returns-then-slot-eq0-clause-made c staged chunk is few r =
    make-plain c.args.self.now _ c.args.more staged chunk c.requires.sound refl refl c.in_ok-reserve-2.ensures.ok (ap (λ (s : Slot). s.leaving) is ∙ c.if-slot.false)
    (ap (λ (s : Slot). s.channel) is ∙ c.if-slot-eq0.true) few r

pub returns-clause-kept : goal.returns-clause-kept
returns-clause-kept c staged r =
    let k = c.make_room_on.ensures.kept staged r.channels r.there in
    record { plain = r.plain; channels = k.0; there = k.1; leaving = r.leaving }

pub returns-clause-made : goal.returns-clause-made
returns-clause-made c =
    if-ok c.make_room_on.result (λ made staged chunk is few r.
    let stays = ap (λ (s : Slot). s.leaving) is ∙ c.if-slot.false in
    let on = ap (λ (s : Slot). s.channel) is in
    let k = made staged chunk on stays few r.channels r.there in
    let above = c.if-slot-eq0.false in
    make-above c.args.self.now _ c.args.more staged chunk refl refl k.0 k.1 stays (omega arith) r) c.make_room_on.ensures.made
