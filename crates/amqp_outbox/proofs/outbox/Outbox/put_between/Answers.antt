use Rattle.std.proofs.Common.{List, ◌+◌, ◌-◌, length, take, drop, refl, ap, ◌∙◌, arith, length-append}
use Rattle.std.proofs.lemmas.List.{length-map}
use Rattle.amqp_outbox.specs.OutboxSlots.{slot_of, slots_length}
use Rattle.amqp_outbox.specs.OutboxWeaving.{slots_of}
use Rattle.amqp_outbox.specs.declared.weaving.Coming.{Coming}
use Rattle.amqp_outbox.specs.OutboxFields.{row_of, staged_of}
use Rattle.amqp_outbox.specs.declared.outbox.Outbox.TheInside.{Inside}
use Rattle.amqp_outbox.proofs.OutboxLapMoves.{laps-lent}
use Rattle.amqp_outbox.proofs.OutboxMoves.{row-lent, row-size}
use Rattle.amqp_outbox.proofs.OutboxRows.{slots_length-row}
use Rattle.amqp_outbox.proofs.OutboxStates.{in_laps}
use Rattle.amqp_outbox.proofs.OutboxWaiting.{count-slots}
use Rattle.amqp_outbox.proofs.OutboxWoven.{staged-lent, row_laps-lent, are-staged, is-put-between, put-between}
use Rattle.amqp_outbox.proofs.outbox.Outbox.put_between.Goals as goal

pub find_places-requires-clause-laps_are : goal.find_places-requires-clause-laps_are
find_places-requires-clause-laps_are c =
    let x = c.self.inside in
    laps-lent x _ _ c.self.invariant c.deref.ensures.value (row-lent x _ c.self.invariant c.deref.ensures.value)

pub find_places-requires-clause-row : goal.find_places-requires-clause-row
find_places-requires-clause-row c =
    let x = c.self.inside in
    let s = c.self.invariant in
    (row_of x, row-lent x _ s c.deref.ensures.value, s.in_turn, s.row_channels)

pub find_places-requires-clause-staged : goal.find_places-requires-clause-staged
find_places-requires-clause-staged c =
    let x = c.self.inside in
    let s = c.self.invariant in
    (staged_of x, staged-lent x _ s c.deref-2.ensures.value, s.staged_channels)

pub find_places-requires-clause-fits : goal.find_places-requires-clause-fits
find_places-requires-clause-fits c =
    let x = c.self.inside in
    let s = c.self.invariant in
    let items = c.deref.result.now in
    let e = c.deref.ensures.value in
    let e2 = c.deref-2.ensures.value in
    let a = count-slots (take (x.slots_arranged - x.slots_begun) (drop x.slots_begun c.deref.result.now)) in
    let b = ap length (row-lent x _ s e) ∙ length-map (row_of x) slot_of in
    let d = count-slots (take (length c.deref-2.result.now - x.slots_arranged) (drop x.slots_arranged c.deref-2.result.now)) in
    let f = ap length (staged-lent x _ s e2) ∙ length-map (staged_of x) slot_of in
    let left = (in_laps x s).left in
    omega arith

pub length_of-total-requires : goal.length_of-total-requires
length_of-total-requires c =
    let x = c.self.inside in
    let s = c.self.invariant in
    let coming = c.in-Ok.coming.items in
    let a = are-staged x _ _ coming (slots_length (slots_of coming)) s (staged-lent x _ s c.deref-2.ensures.value) c.in-Ok.ensures refl in
    let w = a.within in
    let all = length-append x.octets.items x.aside.items in
    let room = s.aside.room in
    let fits = x.octets.ok in
    let small = x.octets.small in
    let e = ap (λ (cs : List Coming). slots_length (slots_of cs)) c.deref-3.ensures.value in
    omega arith

pub weave-ends-requires-clause-arranged : goal.weave-ends-requires-clause-arranged
weave-ends-requires-clause-arranged c =
    let x = c.self.inside in
    let row = row-lent x _ c.self.invariant c.deref-4.ensures.value in
    let a = ap slots_length row ∙ slots_length-row (row_of x) in
    let b = row-size x c.self.invariant in
    omega arith

pub weave-ends-requires-clause-all : goal.weave-ends-requires-clause-all
weave-ends-requires-clause-all c =
    let row = c.self.invariant.aside.row in
    let alone = c.if-self-len.false in
    omega arith

pub weave-ends-requires-clause-there : goal.weave-ends-requires-clause-there
weave-ends-requires-clause-there c =
    let x = c.self.inside in
    let s = c.self.invariant in
    let coming = c.in-Ok.coming.items in
    let octets_is = c.length_of-total.ensures ∙ ap (λ (cs : List Coming). slots_length (slots_of cs)) c.deref-3.ensures.value in
    let a = are-staged x _ _ coming c.length_of-total.result s (staged-lent x _ s c.deref-2.ensures.value) c.in-Ok.ensures octets_is in
    let within = a.within in
    let all = length-append x.octets.items x.aside.items in
    let aside = ap length c.deref-6.ensures.value in
    let row = s.aside.row in
    omega arith

pub weave-ends-requires-clause-room : goal.weave-ends-requires-clause-room
weave-ends-requires-clause-room c =
    let room = c.self.invariant.aside.room in
    let aside = ap length c.deref-6.ensures.value in
    omega arith

pub invariant_of-self : goal.invariant_of-self
invariant_of-self c =
    let x = c.self.inside in
    let s = c.self.invariant in
    let coming = c.in-Ok.coming.items in
    let octets = c.length_of-total.result in
    let ends = c.weave-ends.result in
    let y : Inside = record x { octets = c.weave-ends.new.octets; aside = c.clear.new.self; written = ends.written; begun = ends.begun; arranged = ends.arranged; slots = c.weave_slots.new.slots; slots_arranged = x.slots_arranged + c.len-2.result; newest = c.note_puts.new.self } in
    let rows = row-lent x _ s c.deref.ensures.value in
    let staged = staged-lent x _ s c.deref-2.ensures.value in
    let octets_is = c.length_of-total.ensures ∙ ap (λ (cs : List Coming). slots_length (slots_of cs)) c.deref-3.ensures.value in
    let a = are-staged x _ _ coming octets s staged c.in-Ok.ensures octets_is in
    let p = is-put-between x y _ _ _ coming _ ends octets s a (row-lent x _ s c.deref-4.ensures.value) c.deref-5.ensures.value c.deref-7.ensures.value c.deref-6.ensures.value c.clear.ensures.items
    c.weave-ends.ensures c.weave_slots.ensures refl refl refl refl (omega arith) in
    (put-between x y _ _ coming octets c.args.self.now s c.self.view_is rows (row_laps-lent x _ s c.deref.ensures.value) staged c.in-Ok.ensures a p c.clear.ensures.items refl refl refl).0

pub returns : goal.returns
returns c =
    let x = c.self.inside in
    let s = c.self.invariant in
    let coming = c.in-Ok.coming.items in
    let octets = c.length_of-total.result in
    let ends = c.weave-ends.result in
    let y : Inside = record x { octets = c.weave-ends.new.octets; aside = c.clear.new.self; written = ends.written; begun = ends.begun; arranged = ends.arranged; slots = c.weave_slots.new.slots; slots_arranged = x.slots_arranged + c.len-2.result; newest = c.note_puts.new.self } in
    let rows = row-lent x _ s c.deref.ensures.value in
    let staged = staged-lent x _ s c.deref-2.ensures.value in
    let octets_is = c.length_of-total.ensures ∙ ap (λ (cs : List Coming). slots_length (slots_of cs)) c.deref-3.ensures.value in
    let a = are-staged x _ _ coming octets s staged c.in-Ok.ensures octets_is in
    let p = is-put-between x y _ _ _ coming _ ends octets s a (row-lent x _ s c.deref-4.ensures.value) c.deref-5.ensures.value c.deref-7.ensures.value c.deref-6.ensures.value c.clear.ensures.items
    c.weave-ends.ensures c.weave_slots.ensures refl refl refl refl (omega arith) in
    (put-between x y _ _ coming octets c.args.self.now s c.self.view_is rows (row_laps-lent x _ s c.deref.ensures.value) staged c.in-Ok.ensures a p c.clear.ensures.items refl refl refl).1
