use Rattle.std.proofs.Common.{◌+◌, length, take, refl, sym, ap, ◌∙◌, arith}
use Rattle.amqp_outbox.specs.OutboxLaps.{laps_last}
use Rattle.amqp_outbox.specs.OutboxSlots.{slot_of, slots_length, slots_last}
use Rattle.amqp_outbox.specs.OutboxFields.{row_of}
use Rattle.std.proofs.lemmas.List.{length-map}
use Rattle.amqp_outbox.specs.declared.outbox.Outbox.TheInside.{Inside}
use Rattle.amqp_outbox.proofs.OutboxLapMoves.{laps-written}
use Rattle.amqp_outbox.proofs.OutboxMoves.{row-lent, row-within}
use Rattle.amqp_outbox.proofs.OutboxWaiting.{count-slots, few}
use Rattle.amqp_outbox.proofs.OutboxRows.{slots_length-row}
use Rattle.amqp_outbox.proofs.OutboxStates.{sound, in_laps}
use Rattle.amqp_outbox.proofs.OutboxWrites.{is_write, write-laid_out, write-kept, write_view, row-enough, row-room}
use Rattle.amqp_outbox.proofs.outbox.Outbox.count_written.Goals as goal

pub begun_of-begun-requires-clause-within : goal.begun_of-begun-requires-clause-within
begun_of-begun-requires-clause-within c =
    let x = c.self.inside in
    let a = ap slots_length (row-lent x _ c.self.invariant c.deref.ensures.value) ∙ slots_length-row _ in
    let b = row-enough x c.args.octets c.args.self.now c.self.invariant c.self.view_is c.requires c.if-ahead-octets.true in
    omega arith

pub begun_of-begun-requires-clause-fits : goal.begun_of-begun-requires-clause-fits
begun_of-begun-requires-clause-fits c =
    let x = c.self.inside in
    let a = ap slots_length (row-lent x _ c.self.invariant c.deref.ensures.value) ∙ slots_length-row _ in
    let b = row-within x 0 c.self.invariant in
    omega arith

pub overflow_add-self-then-ahead-octets : goal.overflow_add-self-then-ahead-octets
overflow_add-self-then-ahead-octets c =
    let x = c.self.inside in
    let r = c.begun_of-begun in
    let w = is_write x _ c.args.octets r.result.frames r.result.octets r.result.on r.result.last c.self.invariant (row-lent x _ c.self.invariant c.deref.ensures.value) c.if-ahead-octets.true r.ensures.frames r.ensures.octets r.ensures.on r.ensures.last (few _ _ r.ensures.count) r.ensures.reached in
    let a = row-room x r.result.frames c.self.invariant in
    let b = w.passed_is in
    omega arith

pub invariant_of-self : goal.invariant_of-self
invariant_of-self c =
    let x = c.self.inside in
    let r = c.begun_of-begun in
    let w = is_write x _ c.args.octets r.result.frames r.result.octets r.result.on r.result.last c.self.invariant (row-lent x _ c.self.invariant c.deref.ensures.value) c.if-ahead-octets.true r.ensures.frames r.ensures.octets r.ensures.on r.ensures.last (few _ _ r.ensures.count) r.ensures.reached in
    let lent = row-lent x _ c.self.invariant c.deref.ensures.value in
    sound _ _ _ _ _ _ _ _ _ (write-laid_out x _ c.args.octets r.result.frames r.result.octets r.result.on r.result.last c.self.invariant w refl refl refl refl refl refl refl)
    (write-kept x c.args.octets r.result.frames r.result.octets r.result.on r.result.last c.self.invariant w)
    (laps-written x _ r.result.frames c.self.invariant w.few refl (r.ensures.lap ∙ ap (λ xs. laps_last x.lap x.last (take r.result.frames xs)) lent) (r.ensures.last ∙ ap (λ xs. slots_last x.last (take r.result.frames xs)) lent) refl)
    (record { row = c.self.invariant.aside.row; room = c.self.invariant.aside.room })

pub returns-then-ahead-octets : goal.returns-then-ahead-octets
returns-then-ahead-octets c =
    let x = c.self.inside in
    let r = c.begun_of-begun in
    let w = is_write x _ c.args.octets r.result.frames r.result.octets r.result.on r.result.last c.self.invariant (row-lent x _ c.self.invariant c.deref.ensures.value) c.if-ahead-octets.true r.ensures.frames r.ensures.octets r.ensures.on r.ensures.last (few _ _ r.ensures.count) r.ensures.reached in
    let y : Inside = record x { written = x.written + c.args.octets; begun = x.begun + r.result.octets; slots_begun = x.slots_begun + r.result.frames; begun_on = r.result.on; lap = r.result.lap; last = r.result.last } in
    write_view x y c.args.octets r.result.frames r.result.octets r.result.on r.result.last _ _ c.args.self.now c.self.view_is c.requires w refl refl
    (write-laid_out x y c.args.octets r.result.frames r.result.octets r.result.on r.result.last c.self.invariant w refl refl refl refl refl refl refl)

pub begun_of-begun-requires-clause-laps : goal.begun_of-begun-requires-clause-laps
begun_of-begun-requires-clause-laps c =
    let x = c.self.inside in
    let a = sym (count-slots _) ∙ (ap length (row-lent x _ c.self.invariant c.deref.ensures.value) ∙ length-map (row_of x) slot_of) in
    let b = (in_laps x c.self.invariant).left in
    omega arith
