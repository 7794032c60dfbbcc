use Rattle.std.proofs.Common.{◌≡◌, ◌≤◌, ◌+◌, ◌-◌, length, refl, sym, ap, ◌∙◌, subst, arith}
use Rattle.std.proofs.lemmas.List.{length-map}
use Rattle.amqp_outbox.specs.OutboxSlots.{slot_of, slots_length, moved_up, moved_down}
use Rattle.amqp_outbox.specs.OutboxFields.{all_octets, row_of}
use Rattle.amqp_outbox.specs.declared.outbox.Outbox.TheInside.{Inside}
use Rattle.amqp_outbox.proofs.OutboxAside.{none-aside}
use Rattle.amqp_outbox.proofs.OutboxLapMoves.{laps-put, laps-lent}
use Rattle.amqp_outbox.proofs.OutboxMoves.{frame-put, frame-put-down, kept-put, put_view, row-lent, row-length, row-size, row-within, begins, first_staged}
use Rattle.amqp_outbox.proofs.OutboxRows.{slots_length-row}
use Rattle.amqp_outbox.proofs.OutboxStates.{sound, fits-alone}
use Rattle.amqp_outbox.proofs.OutboxWaiting.{count-slots}
use Rattle.amqp_outbox.proofs.OutboxTurns.{takes-row}
use Rattle.amqp_outbox.proofs.outbox.Outbox.put_first.Goals as goal

pub join-requires : goal.join-requires
join-requires c = c.self.invariant.aside.room

pub place_of-place-requires-clause-laps_are : goal.place_of-place-requires-clause-laps_are
place_of-place-requires-clause-laps_are c = laps-lent c.self.inside _ _ c.self.invariant c.deref.ensures.value (row-lent c.self.inside _ c.self.invariant c.deref.ensures.value)

pub length_from-moved-requires-clause-total : goal.length_from-moved-requires-clause-total
length_from-moved-requires-clause-total c =
    let x = c.self.inside in
    let row = row-lent x _ c.self.invariant c.deref.ensures.value in
    let a = ap slots_length row ∙ slots_length-row (row_of x) in
    let b = row-size x c.self.invariant in
    omega arith

pub overflow_sub-at : goal.overflow_sub-at
overflow_sub-at c =
    let x = c.self.inside in
    let row = row-lent x _ c.self.invariant c.deref.ensures.value in
    let moved = c.length_from-moved.ensures ∙ row-length x _ c.place_of-place.result.before row in
    let b = row-within x c.place_of-place.result.before c.self.invariant in
    let d = c.self.invariant.written in
    omega arith

pub overflow_sub-at-then-count-self : goal.overflow_sub-at-then-count-self
overflow_sub-at-then-count-self c =
    let x = c.self.inside in
    let row = row-lent x _ c.self.invariant c.deref.ensures.value in
    let moved = c.length_from-moved.ensures ∙ row-length x _ c.place_of-place.result.before row in
    let b = row-within x c.place_of-place.result.before c.self.invariant in
    let d = c.self.invariant.written in
    omega arith

pub move_down-requires-clause-order : goal.move_down-requires-clause-order
move_down-requires-clause-order c =
    let x = c.self.inside in
    let row = row-lent x _ c.self.invariant c.deref.ensures.value in
    let moved = c.length_from-moved.ensures ∙ row-length x _ c.place_of-place.result.before row in
    let b = row-within x c.place_of-place.result.before c.self.invariant in
    let d = c.self.invariant.written in
    omega arith

pub move_down-requires-clause-end : goal.move_down-requires-clause-end
move_down-requires-clause-end c =
    let x = c.self.inside in
    let b = begins c.args.self.now.staged c.requires in
    let s = first_staged x c.args.self.now c.index-waiting.result.now.slot c.length-count.result b.first b.later c.index-waiting.result.now _ c.self.invariant c.self.view_is b.frames_are c.index-waiting.ensures refl c.length-count.ensures in
    let w = s.within in
    let joined = ap length c.join.ensures.octets in
    omega arith

pub move_up-requires-clause-end : goal.move_up-requires-clause-end
move_up-requires-clause-end c =
    let x = c.self.inside in
    let b = begins c.args.self.now.staged c.requires in
    let s = first_staged x c.args.self.now c.index-waiting.result.now.slot c.length-count.result b.first b.later c.index-waiting.result.now _ c.self.invariant c.self.view_is b.frames_are c.index-waiting.ensures refl c.length-count.ensures in
    let w = s.within in
    let joined = ap length c.join.ensures.octets in
    omega arith

pub overflow_add-self-else-count-self : goal.overflow_add-self-else-count-self
overflow_add-self-else-count-self c =
    let x = c.self.inside in
    let b = begins c.args.self.now.staged c.requires in
    let s = first_staged x c.args.self.now c.index-waiting.result.now.slot c.length-count.result b.first b.later c.index-waiting.result.now _ c.self.invariant c.self.view_is b.frames_are c.index-waiting.ensures refl c.length-count.ensures in
    let w = s.within in
    let joined = ap length c.join.ensures.octets in
    omega arith

pub overflow_add-self-inside : goal.overflow_add-self-inside
overflow_add-self-inside c =
    let x = c.self.inside in
    let b = begins c.args.self.now.staged c.requires in
    let s = first_staged x c.args.self.now c.index-waiting.result.now.slot c.length-count.result b.first b.later c.index-waiting.result.now _ c.self.invariant c.self.view_is b.frames_are c.index-waiting.ensures refl c.length-count.ensures in
    let w = s.within in
    let joined = ap length c.join.ensures.octets in
    omega arith

pub invariant_of-self : goal.invariant_of-self
invariant_of-self c =
    let x = c.self.inside in
    let row = row-lent x _ c.self.invariant c.deref.ensures.value in
    let b = begins c.args.self.now.staged c.requires in
    let s = first_staged x c.args.self.now c.index-waiting.result.now.slot c.length-count.result b.first b.later c.index-waiting.result.now _ c.self.invariant c.self.view_is b.frames_are c.index-waiting.ensures refl c.length-count.ensures in
    let moved = c.length_from-moved.ensures ∙ row-length x _ c.place_of-place.result.before row in
    let p = c.place_of-place.result.before in
    let few : p ≤ length (row_of x) = subst (λ n. p ≤ n) (sym (count-slots _) ∙ (ap length row ∙ length-map (row_of x) slot_of)) c.place_of-place.ensures.within in
    let at = c.place_of-place.ensures.place b.first (row_of x) s.slot_is (sym row) c.self.invariant.in_turn c.self.invariant.row_channels in
    let y : Inside = record x { octets = c.move_down.new.octets; aside = c.join.new.aside; written = x.written - c.length-count.result; begun = x.begun - c.length-count.result; slots = c.put_slot.new.slots; slots_arranged = x.slots_arranged + 1; newest = c.note_put.new.self } in
    let octets : all_octets y ≡ moved_down x.written (x.arranged - c.length_from-moved.result) x.arranged c.length-count.result (all_octets x) =
    none-aside _ _ c.join.ensures.aside ∙ (c.move_down.ensures ∙ ap (moved_down x.written (x.arranged - c.length_from-moved.result) x.arranged c.length-count.result) c.join.ensures.octets) in
    let laid = frame-put-down x y b.first b.later p c.length_from-moved.result c.length-count.result c.self.invariant s.staged few moved s.count_is c.if-count-self.true octets c.put_slot.ensures.slots refl refl refl refl refl in
    sound y _ _ _ _ _ _ _ _ laid
    (kept-put c.put_keeps_arranged.ensures.arranged x b.first b.later p c.self.invariant (omega arith) s.staged at)
    (laps-put x y b.first b.later p c.place_of-place.result.lap c.self.invariant s.staged few (takes-row _ _ _ p b.first (row_of x) _ _ s.slot_is (sym row) (c.place_of-place.ensures.lap b.first (row_of x) s.slot_is (sym row) c.self.invariant.in_turn c.self.invariant.row_channels)) c.put_slot.ensures.laps refl refl refl)
    (fits-alone y _ _ _ _ _ laid c.join.ensures.aside)

pub invariant_of-self-else-count-self : goal.invariant_of-self-else-count-self
invariant_of-self-else-count-self c =
    let x = c.self.inside in
    let row = row-lent x _ c.self.invariant c.deref.ensures.value in
    let b = begins c.args.self.now.staged c.requires in
    let s = first_staged x c.args.self.now c.index-waiting.result.now.slot c.length-count.result b.first b.later c.index-waiting.result.now _ c.self.invariant c.self.view_is b.frames_are c.index-waiting.ensures refl c.length-count.ensures in
    let moved = c.length_from-moved.ensures ∙ row-length x _ c.place_of-place.result.before row in
    let p = c.place_of-place.result.before in
    let few : p ≤ length (row_of x) = subst (λ n. p ≤ n) (sym (count-slots _) ∙ (ap length row ∙ length-map (row_of x) slot_of)) c.place_of-place.ensures.within in
    let at = c.place_of-place.ensures.place b.first (row_of x) s.slot_is (sym row) c.self.invariant.in_turn c.self.invariant.row_channels in
    let y : Inside = record x { octets = c.move_up.new.items; aside = c.join.new.aside; arranged = x.arranged + c.length-count.result; slots = c.put_slot.new.slots; slots_arranged = x.slots_arranged + 1; newest = c.note_put.new.self } in
    let octets : all_octets y ≡ moved_up (x.arranged - c.length_from-moved.result) (x.arranged + c.length-count.result) c.length-count.result (all_octets x) =
    none-aside _ _ c.join.ensures.aside ∙ (c.move_up.ensures ∙ ap (moved_up (x.arranged - c.length_from-moved.result) (x.arranged + c.length-count.result) c.length-count.result) c.join.ensures.octets) in
    let laid = frame-put x y b.first b.later p c.length_from-moved.result c.length-count.result (x.arranged + c.length-count.result) c.self.invariant s.staged few moved s.count_is refl octets c.put_slot.ensures.slots refl refl refl refl refl in
    sound y _ _ _ _ _ _ _ _ laid
    (kept-put c.put_keeps_arranged.ensures.arranged x b.first b.later p c.self.invariant (omega arith) s.staged at)
    (laps-put x y b.first b.later p c.place_of-place.result.lap c.self.invariant s.staged few (takes-row _ _ _ p b.first (row_of x) _ _ s.slot_is (sym row) (c.place_of-place.ensures.lap b.first (row_of x) s.slot_is (sym row) c.self.invariant.in_turn c.self.invariant.row_channels)) c.put_slot.ensures.laps refl refl refl)
    (fits-alone y _ _ _ _ _ laid c.join.ensures.aside)

pub returns-then-at-self : goal.returns-then-at-self
returns-then-at-self c f later staged =
    let x = c.self.inside in
    let row = row-lent x _ c.self.invariant c.deref.ensures.value in
    let s = first_staged x c.args.self.now c.index-waiting.result.now.slot c.length-count.result f later c.index-waiting.result.now _ c.self.invariant c.self.view_is staged c.index-waiting.ensures refl c.length-count.ensures in
    let moved = c.length_from-moved.ensures ∙ row-length x _ c.place_of-place.result.before row in
    let p = c.place_of-place.result.before in
    let few : p ≤ length (row_of x) = subst (λ n. p ≤ n) (sym (count-slots _) ∙ (ap length row ∙ length-map (row_of x) slot_of)) c.place_of-place.ensures.within in
    let at = c.place_of-place.ensures.place f (row_of x) s.slot_is (sym row) c.self.invariant.in_turn c.self.invariant.row_channels in
    let y : Inside = record x { octets = c.move_down.new.octets; aside = c.join.new.aside; written = x.written - c.length-count.result; begun = x.begun - c.length-count.result; slots = c.put_slot.new.slots; slots_arranged = x.slots_arranged + 1; newest = c.note_put.new.self } in
    let octets : all_octets y ≡ moved_down x.written (x.arranged - c.length_from-moved.result) x.arranged c.length-count.result (all_octets x) =
    none-aside _ _ c.join.ensures.aside ∙ (c.move_down.ensures ∙ ap (moved_down x.written (x.arranged - c.length_from-moved.result) x.arranged c.length-count.result) c.join.ensures.octets) in
    put_view x y f later p _ _ c.args.self.now c.self.view_is refl refl at
    (frame-put-down x y f later p c.length_from-moved.result c.length-count.result c.self.invariant s.staged few moved s.count_is c.if-count-self.true octets c.put_slot.ensures.slots refl refl refl refl refl)

pub returns-else-count-self : goal.returns-else-count-self
returns-else-count-self c f later staged =
    let x = c.self.inside in
    let row = row-lent x _ c.self.invariant c.deref.ensures.value in
    let s = first_staged x c.args.self.now c.index-waiting.result.now.slot c.length-count.result f later c.index-waiting.result.now _ c.self.invariant c.self.view_is staged c.index-waiting.ensures refl c.length-count.ensures in
    let moved = c.length_from-moved.ensures ∙ row-length x _ c.place_of-place.result.before row in
    let p = c.place_of-place.result.before in
    let few : p ≤ length (row_of x) = subst (λ n. p ≤ n) (sym (count-slots _) ∙ (ap length row ∙ length-map (row_of x) slot_of)) c.place_of-place.ensures.within in
    let at = c.place_of-place.ensures.place f (row_of x) s.slot_is (sym row) c.self.invariant.in_turn c.self.invariant.row_channels in
    let y : Inside = record x { octets = c.move_up.new.items; aside = c.join.new.aside; arranged = x.arranged + c.length-count.result; slots = c.put_slot.new.slots; slots_arranged = x.slots_arranged + 1; newest = c.note_put.new.self } in
    let octets : all_octets y ≡ moved_up (x.arranged - c.length_from-moved.result) (x.arranged + c.length-count.result) c.length-count.result (all_octets x) =
    none-aside _ _ c.join.ensures.aside ∙ (c.move_up.ensures ∙ ap (moved_up (x.arranged - c.length_from-moved.result) (x.arranged + c.length-count.result) c.length-count.result) c.join.ensures.octets) in
    put_view x y f later p _ _ c.args.self.now c.self.view_is refl refl at
    (frame-put x y f later p c.length_from-moved.result c.length-count.result (x.arranged + c.length-count.result) c.self.invariant s.staged few moved s.count_is refl octets c.put_slot.ensures.slots refl refl refl refl refl)
