-- What the calls of an outbox make of its fields.
use Rattle.std.proofs.Common.{◌≡◌, ◌≢◌, ℕ, ◌+◌, ◌-◌, ◌<◌, ◌≤◌, ◌==◌, List, [], ◌∷◌, ◌++◌, length, map, take, drop, All, refl, sym, ap, ap₂, ◌∙◌, subst, arith, append_assoc, append-nil, length-append, length-drop, take-append-drop, get_or, eq-eqb, ne_eqb}
use Rattle.std.proofs.lemmas.Bool.{cond-true, cond-false}
use Rattle.std.proofs.lemmas.List.{drop_at, take_at, length-map, length-take-le, map-append, get_or_at, drop-take, drop-map}
use Rattle.std.proofs.lemmas.List.Elements.{All-nil, All-push, All-append, All-take, All-drop, All-cons, All-head, All-tail}
use Rattle.amqp_frame.specs.Frame.{Frame, octets}
use Rattle.amqp_frame.specs.Splitting.{stream}
use Rattle.amqp_model.specs.Output.Arrangement.{HasChannel, IsChannel, IsArranged, on, placed}
use Rattle.amqp_model.specs.Laws.ArrangementLaws.{PutArranges}
use Rattle.amqp_model.specs.Output.Outputs.{output_octets, waiting_on, after_put, after_puts}
use Rattle.amqp_outbox.specs.OutboxSlots.{slot_of, slots_in, slot_length, slots_length, slots_length_on, moved_up, moved_down}
use Rattle.amqp_outbox.specs.OutboxView.{Outgoing, only, with_staged, all_put, IsPutOfFirst}
use Rattle.amqp_outbox.specs.OutboxFields.{all_octets, row_of, staged_of, outgoing_of, all_slots, OutboxIsSound}
use Rattle.amqp_outbox.specs.declared.slots.Slot.{Slot}
use Rattle.amqp_outbox.specs.declared.slots.Waiting.{Waiting}
use Rattle.amqp_outbox.specs.declared.outbox.Outbox.TheInside.{Inside}
use Rattle.amqp_outbox.proofs.OutboxAside.{in-front}
use Rattle.amqp_outbox.proofs.OutboxLists.{moved_up-is, moved_down-is, last_of_three, last_of_four, length-second}
use Rattle.amqp_outbox.proofs.OutboxRows.{stream-append, length-octets, slots_length-row, slots_length_on-row}
use Rattle.amqp_outbox.proofs.OutboxSlots.{slots_length_on-most}
use Rattle.amqp_outbox.proofs.OutboxWaiting.{count-slots, slot-at, slots-before, slots-after}
use Rattle.amqp_outbox.proofs.OutboxStates.{IsLaidOut, IsKept, laid_out, view, outgoing}

-- the octets to write are those from the written ones up to those staged
pub output-is : (x : Inside) → OutboxIsSound x → take (x.arranged - x.written) (drop x.written x.octets.items) ≡ output_octets (outgoing_of x).output
output-is x s =
    let l = laid_out x s in
    let ahead = drop x.written (take x.begun (all_octets x)) in
    let gone = take x.written (all_octets x) in
    let a : drop x.written (all_octets x) ≡ ahead ++ (stream (row_of x) ++ stream (staged_of x)) = ap (drop x.written) l.octets ∙ drop_at gone (ahead ++ (stream (row_of x) ++ stream (staged_of x))) x.written (sym l.written) in
    let b : drop x.written (all_octets x) ≡ (ahead ++ stream (row_of x)) ++ stream (staged_of x) = a ∙ sym (append_assoc ahead (stream (row_of x)) (stream (staged_of x))) in
    let c = length-append ahead (stream (row_of x)) in
    let d = l.begun in
    let e = l.arranged in
    in-front x.octets.items x.aside.items x.written x.arranged (omega arith) s.aside.row
    ∙ (ap (take (x.arranged - x.written)) b ∙ take_at (ahead ++ stream (row_of x)) (stream (staged_of x)) (x.arranged - x.written) (omega arith))

-- The octets that are written are dropped.
pub written-dropped : (x y : Inside) → OutboxIsSound x → all_octets y ≡ drop x.written (all_octets x) → all_slots y ≡ all_slots x → y.written ≡ 0 → y.begun ≡ x.begun - x.written → y.arranged ≡ x.arranged - x.written
    → y.slots_begun ≡ x.slots_begun → y.slots_arranged ≡ x.slots_arranged
    → IsLaidOut y [] (drop x.written (take x.begun (all_octets x))) (take x.slots_begun (all_slots x)) (row_of x) (staged_of x)
written-dropped x y s octets slots written begun arranged slots_begun slots_arranged =
    let l = laid_out x s in
    let ahead = drop x.written (take x.begun (all_octets x)) in
    let rest = ahead ++ (stream (row_of x) ++ stream (staged_of x)) in
    let a = l.begun in
    let b = l.arranged in
    let c = s.written in
    record {
      octets = octets ∙ (ap (drop x.written) l.octets ∙ drop_at (take x.written (all_octets x)) rest x.written (sym l.written));
      slots = slots ∙ l.slots;
      written = written;
      begun = omega arith;
      arranged = omega arith;
      slots_begun = slots_begun ∙ l.slots_begun;
      slots_arranged = let d = l.slots_arranged in omega arith;
    }

-- The slots of the frames that are begun are dropped.
pub begun-dropped : (x y : Inside) → OutboxIsSound x → all_octets y ≡ all_octets x → all_slots y ≡ drop x.slots_begun (all_slots x) → y.written ≡ x.written → y.begun ≡ x.begun → y.arranged ≡ x.arranged
    → y.slots_begun ≡ 0 → y.slots_arranged ≡ x.slots_arranged - x.slots_begun
    → IsLaidOut y (take x.written (all_octets x)) (drop x.written (take x.begun (all_octets x))) [] (row_of x) (staged_of x)
begun-dropped x y s octets slots written begun arranged slots_begun slots_arranged =
    let l = laid_out x s in
    let rest = map slot_of (row_of x) ++ map slot_of (staged_of x) in
    let a = l.begun in
    let b = l.arranged in
    let c = l.slots_arranged in
    record {
      octets = octets ∙ l.octets;
      slots = slots ∙ (ap (drop x.slots_begun) l.slots ∙ drop_at (take x.slots_begun (all_slots x)) rest x.slots_begun (sym l.slots_begun));
      written = written ∙ l.written;
      begun = omega arith;
      arranged = omega arith;
      slots_begun = slots_begun;
      slots_arranged = omega arith;
    }

-- fields that are laid out with the same lists stand for the same
pub same_view : (x y : Inside) (gone : List ℕ) (past : List Slot) (value : Outgoing) → outgoing_of x ≡ value → y.begun_on ≡ x.begun_on → y.last ≡ x.last → IsLaidOut y gone (drop x.written (take x.begun (all_octets x))) past (row_of x) (staged_of x) → outgoing_of y ≡ value
same_view x y gone past value e on f l =
    let ahead = drop x.written (take x.begun (all_octets x)) in
    view y gone ahead past (row_of x) (staged_of x) l ∙ (ap₂ (λ c last. outgoing ahead c last (row_of x) (staged_of x)) on f ∙ e)

-- The room alone is another.
pub still-laid : (x y : Inside) → OutboxIsSound x → y.octets.items ≡ x.octets.items → y.aside.items ≡ x.aside.items → y.slots.items ≡ x.slots.items → y.written ≡ x.written → y.begun ≡ x.begun → y.arranged ≡ x.arranged
    → y.slots_begun ≡ x.slots_begun → y.slots_arranged ≡ x.slots_arranged
    → IsLaidOut y (take x.written (all_octets x)) (drop x.written (take x.begun (all_octets x))) (take x.slots_begun (all_slots x)) (row_of x) (staged_of x)
still-laid x y s octets aside slots written begun arranged slots_begun slots_arranged =
    let l = laid_out x s in
    let a = l.begun in
    let b = l.arranged in
    let c = l.slots_arranged in
    record {
      octets = ap₂ (λ xs ys. xs ++ ys) octets aside ∙ l.octets;
      slots = ap slots_in slots ∙ l.slots;
      written = written ∙ l.written;
      begun = omega arith;
      arranged = omega arith;
      slots_begun = slots_begun ∙ l.slots_begun;
      slots_arranged = omega arith;
    }

-- A frame is staged after the others.
pub frame-staged : (x y : Inside) (f : Frame) → OutboxIsSound x → all_octets y ≡ all_octets x ++ octets f → all_slots y ≡ all_slots x ++ slot_of f ∷ [] → y.written ≡ x.written → y.begun ≡ x.begun → y.arranged ≡ x.arranged
    → y.slots_begun ≡ x.slots_begun → y.slots_arranged ≡ x.slots_arranged
    → IsLaidOut y (take x.written (all_octets x)) (drop x.written (take x.begun (all_octets x))) (take x.slots_begun (all_slots x)) (row_of x) (staged_of x ++ f ∷ [])
frame-staged x y f s more more_slots written begun arranged slots_begun slots_arranged =
    let l = laid_out x s in
    let gone = take x.written (all_octets x) in
    let ahead = drop x.written (take x.begun (all_octets x)) in
    let row = row_of x in
    let staged = staged_of x in
    let past = take x.slots_begun (all_slots x) in
    let a = l.begun in
    let b = l.arranged in
    let c = l.slots_arranged in
    let d : stream (staged ++ f ∷ []) ≡ stream staged ++ octets f = stream-append staged (f ∷ []) ∙ ap (λ l. stream staged ++ l) (append-nil (octets f)) in
    let e : map slot_of (staged ++ f ∷ []) ≡ map slot_of staged ++ slot_of f ∷ [] = map-append slot_of staged (f ∷ []) in
    record {
      octets = more ∙ (ap (λ l. l ++ octets f) l.octets ∙ (last_of_four gone ahead (stream row) (stream staged) (octets f) ∙ ap (λ l. gone ++ (ahead ++ (stream row ++ l))) (sym d)));
      slots = more_slots ∙ (ap (λ l. l ++ slot_of f ∷ []) l.slots ∙ (last_of_three past (map slot_of row) (map slot_of staged) (slot_of f ∷ []) ∙ ap (λ l. past ++ (map slot_of row ++ l)) (sym e)));
      written = written ∙ l.written;
      begun = omega arith;
      arranged = omega arith;
      slots_begun = slots_begun ∙ l.slots_begun;
      slots_arranged = omega arith;
    }

pub kept-staged : (x : Inside) (f : Frame) → OutboxIsSound x → HasChannel f → IsKept x.last (row_of x) (staged_of x ++ f ∷ [])
kept-staged x f s h = record { in_turn = s.in_turn; row_channels = s.row_channels; staged_channels = All-push HasChannel (staged_of x) f s.staged_channels h }

pub staged_view : (x y : Inside) (f : Frame) (gone : List ℕ) (past : List Slot) (value : Outgoing) → outgoing_of x ≡ value → y.begun_on ≡ x.begun_on → y.last ≡ x.last → IsLaidOut y gone (drop x.written (take x.begun (all_octets x))) past (row_of x) (staged_of x ++ f ∷ [])
    → outgoing_of y ≡ with_staged value (f ∷ [])
staged_view x y f gone past value e on g l =
    let ahead = drop x.written (take x.begun (all_octets x)) in
    view y gone ahead past (row_of x) (staged_of x ++ f ∷ []) l ∙ (ap₂ (λ c last. outgoing ahead c last (row_of x) (staged_of x ++ f ∷ [])) on g ∙ ap (λ v. with_staged v (f ∷ [])) e)

-- What is staged is dropped.
pub staged-dropped : (x y : Inside) → OutboxIsSound x → all_octets y ≡ take x.arranged (all_octets x) → all_slots y ≡ take x.slots_arranged (all_slots x) → y.written ≡ x.written → y.begun ≡ x.begun → y.arranged ≡ x.arranged
    → y.slots_begun ≡ x.slots_begun → y.slots_arranged ≡ x.slots_arranged
    → IsLaidOut y (take x.written (all_octets x)) (drop x.written (take x.begun (all_octets x))) (take x.slots_begun (all_slots x)) (row_of x) []
staged-dropped x y s octets slots written begun arranged slots_begun slots_arranged =
    let l = laid_out x s in
    let gone = take x.written (all_octets x) in
    let ahead = drop x.written (take x.begun (all_octets x)) in
    let row = stream (row_of x) in
    let past = take x.slots_begun (all_slots x) in
    let rows = map slot_of (row_of x) in
    let whole : all_octets x ≡ (gone ++ (ahead ++ row)) ++ stream (staged_of x) = l.octets ∙ sym (last_of_three gone ahead row (stream (staged_of x))) in
    let wholes : all_slots x ≡ (past ++ rows) ++ map slot_of (staged_of x) = l.slots ∙ sym (append_assoc past rows (map slot_of (staged_of x))) in
    let a = length-append gone (ahead ++ row) in
    let b = length-append ahead row in
    let c = length-append past rows in
    let d = length-map (row_of x) slot_of in
    let w = l.written in
    let e = l.begun in
    let f = l.arranged in
    let g = l.slots_begun in
    let h = l.slots_arranged in
    record {
      octets = octets ∙ (ap (take x.arranged) whole ∙ (take_at (gone ++ (ahead ++ row)) (stream (staged_of x)) x.arranged (omega arith) ∙ ap (λ os. gone ++ (ahead ++ os)) (sym (append-nil row))));
      slots = slots ∙ (ap (take x.slots_arranged) wholes ∙ (take_at (past ++ rows) (map slot_of (staged_of x)) x.slots_arranged (omega arith) ∙ ap (λ ss. past ++ ss) (sym (append-nil rows))));
      written = written ∙ w;
      begun = omega arith;
      arranged = omega arith;
      slots_begun = slots_begun ∙ g;
      slots_arranged = omega arith;
    }

pub kept-row : (x : Inside) → OutboxIsSound x → IsKept x.last (row_of x) []
kept-row x s = record { in_turn = s.in_turn; row_channels = s.row_channels; staged_channels = All-nil HasChannel }

pub row_view : (x y : Inside) (gone : List ℕ) (past : List Slot) (value : Outgoing) → outgoing_of x ≡ value → y.begun_on ≡ x.begun_on → y.last ≡ x.last → IsLaidOut y gone (drop x.written (take x.begun (all_octets x))) past (row_of x) [] → outgoing_of y ≡ only value.output
row_view x y gone past value e on f l =
    let ahead = drop x.written (take x.begun (all_octets x)) in
    view y gone ahead past (row_of x) [] l ∙ (ap₂ (λ c last. outgoing ahead c last (row_of x) []) on f ∙ ap (λ (v : Outgoing). only v.output) e)

-- the frame appended stands from where the octets ended before
pub frame-appended : (f : Frame) (old new : List ℕ) (at : ℕ) → at ≡ length old → new ≡ old ++ octets f → drop at new ≡ octets f
frame-appended f old new at e g = ap (drop at) g ∙ drop_at old (octets f) at (sym e)

pub length-appended : (f : Frame) (old new : List ℕ) (at : ℕ) → at ≡ length old → new ≡ old ++ octets f → length new ≡ at + (length f.payload + 8)
length-appended f old new at e g =
    let a = ap length g ∙ length-append old (octets f) in
    let b = length-octets f in
    omega arith

-- The slot of the first frame that is staged is put after so many slots of the row.
slots-put : (x y : Inside) (f : Frame) (later : List Frame) (p : ℕ) → OutboxIsSound x → staged_of x ≡ f ∷ later → p ≤ length (row_of x) → all_slots y ≡ moved_up (x.slots_begun + p) (x.slots_arranged + 1) 1 (all_slots x)
    → all_slots y ≡ take x.slots_begun (all_slots x) ++ (map slot_of (take p (row_of x) ++ f ∷ drop p (row_of x)) ++ map slot_of later)
slots-put x y f later p s staged few slots_are =
    let l = laid_out x s in
    let row = row_of x in
    let past = take x.slots_begun (all_slots x) in
    let c = l.slots_arranged in
    let slots1 : map slot_of row ≡ map slot_of (take p row) ++ map slot_of (drop p row) = ap (map slot_of) (sym (take-append-drop p row)) ∙ map-append slot_of (take p row) (drop p row) in
    let slots2 : all_slots x ≡ (past ++ map slot_of (take p row)) ++ (map slot_of (drop p row) ++ ((slot_of f ∷ []) ++ map slot_of later)) =
    l.slots
    ∙ (ap₂ (λ r t. past ++ (r ++ map slot_of t)) slots1 staged
    ∙ (ap (λ ss. past ++ ss) (append_assoc (map slot_of (take p row)) (map slot_of (drop p row)) (slot_of f ∷ map slot_of later)) ∙ sym (append_assoc past (map slot_of (take p row)) (map slot_of (drop p row) ++ (slot_of f ∷ map slot_of later))))) in
    let count1 = length-map (take p row) slot_of in
    let count2 = length-take-le p row few in
    let count3 = length-append past (map slot_of (take p row)) in
    let count4 = l.slots_begun in
    let count5 = length-map (drop p row) slot_of in
    let count6 = length-drop p row in
    let slots_then : all_slots y ≡ (past ++ map slot_of (take p row)) ++ ((slot_of f ∷ []) ++ (map slot_of (drop p row) ++ map slot_of later)) =
    slots_are ∙ (ap (moved_up (x.slots_begun + p) (x.slots_arranged + 1) 1) slots2 ∙ moved_up-is (past ++ map slot_of (take p row)) (map slot_of (drop p row)) (slot_of f ∷ []) (map slot_of later) (x.slots_begun + p) (x.slots_arranged + 1) 1 (omega arith) (omega arith) refl) in
    let row_slots_then : map slot_of (take p row ++ f ∷ drop p row) ≡ map slot_of (take p row) ++ slot_of f ∷ map slot_of (drop p row) = map-append slot_of (take p row) (f ∷ drop p row) in
    let regrouped_slots : (past ++ map slot_of (take p row)) ++ (slot_of f ∷ (map slot_of (drop p row) ++ map slot_of later)) ≡ past ++ ((map slot_of (take p row) ++ slot_of f ∷ map slot_of (drop p row)) ++ map slot_of later) =
    append_assoc past (map slot_of (take p row)) (slot_of f ∷ (map slot_of (drop p row) ++ map slot_of later)) ∙ ap (λ ss. past ++ ss) (sym (append_assoc (map slot_of (take p row)) (slot_of f ∷ map slot_of (drop p row)) (map slot_of later))) in
    slots_then ∙ (regrouped_slots ∙ ap (λ ss. past ++ (ss ++ map slot_of later)) (sym row_slots_then))

-- The first frame that is staged is put after so many frames of the row.
pub frame-put : (x y : Inside) (f : Frame) (later : List Frame) (p moved count end : ℕ) → OutboxIsSound x → staged_of x ≡ f ∷ later → p ≤ length (row_of x) → moved ≡ length (stream (drop p (row_of x))) → count ≡ length f.payload + 8 → end ≡ x.arranged + count
    → all_octets y ≡ moved_up (x.arranged - moved) end count (all_octets x) → all_slots y ≡ moved_up (x.slots_begun + p) (x.slots_arranged + 1) 1 (all_slots x)
    → y.written ≡ x.written → y.begun ≡ x.begun → y.arranged ≡ end → y.slots_begun ≡ x.slots_begun → y.slots_arranged ≡ x.slots_arranged + 1
    → IsLaidOut y (take x.written (all_octets x)) (drop x.written (take x.begun (all_octets x))) (take x.slots_begun (all_slots x)) (take p (row_of x) ++ f ∷ drop p (row_of x)) later
frame-put x y f later p moved count end s staged few moved_is count_is end_is octets_are slots_are written begun arranged slots_begun slots_arranged =
    let l = laid_out x s in
    let row = row_of x in
    let gone = take x.written (all_octets x) in
    let ahead = drop x.written (take x.begun (all_octets x)) in
    let first = stream (take p row) in
    let rest = stream (drop p row) in
    let a = l.begun in
    let b = l.arranged in
    let c = l.slots_arranged in
    let d = l.written in
    let split : stream row ≡ first ++ rest = ap stream (sym (take-append-drop p row)) ∙ stream-append (take p row) (drop p row) in
    let size = ap length split ∙ length-append first rest in
    let frame = length-octets f in
    let whole : all_octets x ≡ ((gone ++ ahead) ++ first) ++ (rest ++ (octets f ++ stream later)) =
    l.octets
    ∙ (ap₂ (λ r t. gone ++ (ahead ++ (r ++ stream t))) split staged
    ∙ (ap (λ os. gone ++ (ahead ++ os)) (append_assoc first rest (octets f ++ stream later))
    ∙ (sym (append_assoc gone ahead (first ++ (rest ++ (octets f ++ stream later)))) ∙ sym (append_assoc (gone ++ ahead) first (rest ++ (octets f ++ stream later)))))) in
    let size1 = length-append gone ahead in
    let size2 = length-append (gone ++ ahead) first in
    let octets_then : all_octets y ≡ ((gone ++ ahead) ++ first) ++ (octets f ++ (rest ++ stream later)) =
    octets_are ∙ (ap (moved_up (x.arranged - moved) end count) whole ∙ moved_up-is ((gone ++ ahead) ++ first) rest (octets f) (stream later) (x.arranged - moved) end count (omega arith) (omega arith) (omega arith)) in
    let row_then : stream (take p row ++ f ∷ drop p row) ≡ first ++ (octets f ++ rest) = stream-append (take p row) (f ∷ drop p row) in
    let regrouped : ((gone ++ ahead) ++ first) ++ (octets f ++ (rest ++ stream later)) ≡ gone ++ (ahead ++ ((first ++ (octets f ++ rest)) ++ stream later)) =
    append_assoc (gone ++ ahead) first (octets f ++ (rest ++ stream later))
    ∙ (append_assoc gone ahead (first ++ (octets f ++ (rest ++ stream later)))
    ∙ ap (λ os. gone ++ (ahead ++ os)) (ap (λ os. first ++ os) (sym (append_assoc (octets f) rest (stream later))) ∙ sym (append_assoc first (octets f ++ rest) (stream later)))) in
    let count4 = l.slots_begun in
    let count1 = length-take-le p row few in
    let count6 = length-drop p row in
    let size3 = ap length row_then ∙ length-append first (octets f ++ rest) in
    let size4 = length-append (octets f) rest in
    let count7 = length-append (take p row) (f ∷ drop p row) in
    record {
      octets = octets_then ∙ (regrouped ∙ ap (λ os. gone ++ (ahead ++ (os ++ stream later))) (sym row_then));
      slots = slots-put x y f later p s staged few slots_are;
      written = written ∙ l.written;
      begun = omega arith;
      arranged = omega arith;
      slots_begun = slots_begun ∙ l.slots_begun;
      slots_arranged = omega arith;
    }

-- The same, where what stands before the place makes room.
pub frame-put-down : (x y : Inside) (f : Frame) (later : List Frame) (p moved count : ℕ) → OutboxIsSound x → staged_of x ≡ f ∷ later → p ≤ length (row_of x) → moved ≡ length (stream (drop p (row_of x))) → count ≡ length f.payload + 8 → count ≤ x.written
    → all_octets y ≡ moved_down x.written (x.arranged - moved) x.arranged count (all_octets x) → all_slots y ≡ moved_up (x.slots_begun + p) (x.slots_arranged + 1) 1 (all_slots x)
    → y.written ≡ x.written - count → y.begun ≡ x.begun - count → y.arranged ≡ x.arranged → y.slots_begun ≡ x.slots_begun → y.slots_arranged ≡ x.slots_arranged + 1
    → IsLaidOut y (take (x.written - count) (take x.written (all_octets x))) (drop x.written (take x.begun (all_octets x))) (take x.slots_begun (all_slots x)) (take p (row_of x) ++ f ∷ drop p (row_of x)) later
frame-put-down x y f later p moved count s staged few moved_is count_is room octets_are slots_are written begun arranged slots_begun slots_arranged =
    let l = laid_out x s in
    let row = row_of x in
    let gone = take x.written (all_octets x) in
    let ahead = drop x.written (take x.begun (all_octets x)) in
    let first = stream (take p row) in
    let rest = stream (drop p row) in
    let a = l.begun in
    let b = l.arranged in
    let d = l.written in
    let split : stream row ≡ first ++ rest = ap stream (sym (take-append-drop p row)) ∙ stream-append (take p row) (drop p row) in
    let size = ap length split ∙ length-append first rest in
    let frame = length-octets f in
    let whole : all_octets x ≡ gone ++ ((ahead ++ first) ++ (rest ++ (octets f ++ stream later))) =
    l.octets
    ∙ (ap₂ (λ r t. gone ++ (ahead ++ (r ++ stream t))) split staged
    ∙ (ap (λ os. gone ++ (ahead ++ os)) (append_assoc first rest (octets f ++ stream later)) ∙ ap (λ os. gone ++ os) (sym (append_assoc ahead first (rest ++ (octets f ++ stream later)))))) in
    let size1 = length-append ahead first in
    let lost = take (x.written - count) gone in
    let size2 = length-take-le (x.written - count) gone (omega arith) in
    let octets_then : all_octets y ≡ lost ++ ((ahead ++ first) ++ (octets f ++ (rest ++ stream later))) =
    octets_are ∙ (ap (moved_down x.written (x.arranged - moved) x.arranged count) whole ∙ moved_down-is gone (ahead ++ first) rest (octets f) (stream later) x.written (x.arranged - moved) x.arranged count d (omega arith) (omega arith) (omega arith) room) in
    let row_then : stream (take p row ++ f ∷ drop p row) ≡ first ++ (octets f ++ rest) = stream-append (take p row) (f ∷ drop p row) in
    let regrouped : (ahead ++ first) ++ (octets f ++ (rest ++ stream later)) ≡ ahead ++ ((first ++ (octets f ++ rest)) ++ stream later) =
    append_assoc ahead first (octets f ++ (rest ++ stream later)) ∙ ap (λ os. ahead ++ os) (ap (λ os. first ++ os) (sym (append_assoc (octets f) rest (stream later))) ∙ sym (append_assoc first (octets f ++ rest) (stream later))) in
    let size3 = ap length row_then ∙ length-append first (octets f ++ rest) in
    let size4 = length-append (octets f) rest in
    let g = slots-put x y f later p s staged few slots_are in
    let c = l.slots_arranged in
    let count4 = l.slots_begun in
    let count1 = length-take-le p row few in
    let count6 = length-drop p row in
    let count7 = length-append (take p row) (f ∷ drop p row) in
    record {
      octets = octets_then ∙ ap (λ os. lost ++ os) (regrouped ∙ ap (λ os. ahead ++ (os ++ stream later)) (sym row_then));
      slots = g;
      written = omega arith;
      begun = omega arith;
      arranged = omega arith;
      slots_begun = slots_begun ∙ l.slots_begun;
      slots_arranged = omega arith;
    }

-- the row is arranged still
pub kept-put : (law : PutArranges) (x : Inside) (f : Frame) (later : List Frame) (p : ℕ) → OutboxIsSound x → IsChannel x.last → staged_of x ≡ f ∷ later → placed x.last f (row_of x) ≡ take p (row_of x) ++ f ∷ drop p (row_of x)
    → IsKept x.last (take p (row_of x) ++ f ∷ drop p (row_of x)) later
kept-put law x f later p s last staged at =
    let row = row_of x in
    let channels : All HasChannel (f ∷ later) = subst (All HasChannel) staged s.staged_channels in
    let channel : HasChannel f = All-head HasChannel f later channels in
    let arranges = law x.last f row row last channel s.row_channels (record { arranged = s.in_turn; queues = λ queue. refl }) in
    let arranged : IsArranged x.last (placed x.last f row) = arranges.arranged in
    record {
      in_turn = rw (sym at) arranged;
      row_channels = All-append HasChannel (take p row) (f ∷ drop p row) (All-take HasChannel p row s.row_channels) (All-cons HasChannel f (drop p row) channel (All-drop HasChannel p row s.row_channels));
      staged_channels = All-tail HasChannel f later channels;
    }

pub put_view : (x y : Inside) (f : Frame) (later : List Frame) (p : ℕ) (gone : List ℕ) (past : List Slot) (value : Outgoing) → outgoing_of x ≡ value → y.begun_on ≡ x.begun_on → y.last ≡ x.last → placed x.last f (row_of x) ≡ take p (row_of x) ++ f ∷ drop p (row_of x)
    → IsLaidOut y gone (drop x.written (take x.begun (all_octets x))) past (take p (row_of x) ++ f ∷ drop p (row_of x)) later
    → outgoing_of y ≡ record { output = after_put f value.output; staged = later }
put_view x y f later p gone past value e on g at l =
    let ahead = drop x.written (take x.begun (all_octets x)) in
    view y gone ahead past (take p (row_of x) ++ f ∷ drop p (row_of x)) later l
    ∙ (cc (on, g, at)
    ∙ ap (λ (v : Outgoing). record { output = after_put f v.output; staged = later }) e)

-- the first slot that is staged is that of the first frame
pub first-staged : (x : Inside) (d : Slot) (f : Frame) (later : List Frame) → OutboxIsSound x → staged_of x ≡ f ∷ later → (get_or (all_slots x) x.slots_arranged d ≡ slot_of f) × (x.slots_arranged < length x.slots.items)
first-staged x d f later s staged =
    let l = laid_out x s in
    let past = take x.slots_begun (all_slots x) in
    let row = row_of x in
    let a = l.slots_begun in
    let b = l.slots_arranged in
    let c = length-append past (map slot_of row) in
    let e = length-map row slot_of in
    let whole : all_slots x ≡ (past ++ map slot_of row) ++ slot_of f ∷ map slot_of later = l.slots ∙ (ap (λ t. past ++ (map slot_of row ++ map slot_of t)) staged ∙ sym (append_assoc past (map slot_of row) (slot_of f ∷ map slot_of later))) in
    let size = ap length whole ∙ length-append (past ++ map slot_of row) (slot_of f ∷ map slot_of later) in
    let all = count-slots x.slots.items in
    (ap (λ ss. get_or ss x.slots_arranged d) whole ∙ get_or_at (past ++ map slot_of row) (slot_of f) (map slot_of later) d x.slots_arranged (omega arith), omega arith)

-- the slots of the row, as they are lent
pub row-lent : (x : Inside) (items : List Waiting) → OutboxIsSound x → items ≡ x.slots.items → slots_in (take (x.slots_arranged - x.slots_begun) (drop x.slots_begun items)) ≡ map slot_of (row_of x)
row-lent x items s e =
    let a = s.slots_begun in
    ap (λ ss. slots_in (take (x.slots_arranged - x.slots_begun) (drop x.slots_begun ss))) e
    ∙ (slots-before (x.slots_arranged - x.slots_begun) (drop x.slots_begun x.slots.items)
    ∙ (ap (take (x.slots_arranged - x.slots_begun)) (slots-after x.slots_begun x.slots.items)
    ∙ (sym (drop-take x.slots_begun (x.slots_arranged - x.slots_begun) (all_slots x))
    ∙ (ap (λ n. drop x.slots_begun (take n (all_slots x))) (omega arith) ∙ sym s.row_described))))

-- the length of the slots of the row from a place on
pub row-length : (x : Inside) (slots : List Slot) (p : ℕ) → slots ≡ map slot_of (row_of x) → slots_length (drop p slots) ≡ length (stream (drop p (row_of x)))
row-length x slots p e = ap slots_length (ap (drop p) e ∙ drop-map slot_of p (row_of x)) ∙ slots_length-row (drop p (row_of x))

-- the octets of the row stand after those ahead and before those that are staged
pub row-size : (x : Inside) → OutboxIsSound x → x.begun + length (stream (row_of x)) ≡ x.arranged
row-size x s = sym (laid_out x s).arranged

pub row-within : (x : Inside) (p : ℕ) → OutboxIsSound x → x.begun + length (stream (drop p (row_of x))) ≤ x.arranged
row-within x p s =
    let a = row-size x s in
    let row = row_of x in
    let b = ap length (ap stream (sym (take-append-drop p row)) ∙ stream-append (take p row) (drop p row)) ∙ length-append (stream (take p row)) (stream (drop p row)) in
    omega arith

-- what waits of a channel, where a frame of it is begun, and where none is
own-waiting : (x : Inside) (channel n : ℕ) → OutboxIsSound x → n ≡ length (stream (on channel (row_of x))) → x.begun_on ≡ channel → (x.begun - x.written) + n ≡ waiting_on channel (outgoing_of x).output
own-waiting x channel n s e own =
    let b = length-second (all_octets x) x.written x.begun s.written (let l = laid_out x s in let a = s.begun in let c = s.arranged in omega arith) in
    let there = cond-true (x.begun_on == channel) (length (drop x.written (take x.begun (all_octets x)))) 0 (eq-eqb x.begun_on channel own) in
    omega arith

other-waiting : (x : Inside) (channel n : ℕ) → n ≡ length (stream (on channel (row_of x))) → x.begun_on ≢ channel → n ≡ waiting_on channel (outgoing_of x).output
other-waiting x channel n e other =
    let there = cond-false (x.begun_on == channel) (length (drop x.written (take x.begun (all_octets x)))) 0 (ne_eqb x.begun_on channel other) in
    omega arith

row-waiting : (x : Inside) (channel n : ℕ) (slots : List Slot) → slots ≡ map slot_of (row_of x) → n ≡ slots_length_on channel slots → n ≡ length (stream (on channel (row_of x)))
row-waiting x channel n slots e h = h ∙ (ap (slots_length_on channel) e ∙ slots_length_on-row channel (row_of x))

pub waits-within : (x : Inside) (channel n : ℕ) (slots : List Slot) → OutboxIsSound x → slots ≡ map slot_of (row_of x) → n ≡ slots_length_on channel slots → (x.begun - x.written) + n ≤ x.arranged
waits-within x channel n slots s row h =
    let most = slots_length_on-most channel slots in
    let a = ap slots_length row ∙ slots_length-row (row_of x) in
    let b = row-size x s in
    omega arith

pub begun-waits : (x : Inside) (channel n : ℕ) (slots : List Slot) (value : Outgoing) → OutboxIsSound x → outgoing_of x ≡ value → slots ≡ map slot_of (row_of x) → n ≡ slots_length_on channel slots → x.begun_on ≡ channel
    → (x.begun - x.written) + n ≡ waiting_on channel value.output
begun-waits x channel n slots value s e row h own = own-waiting x channel n s (row-waiting x channel n slots row h) own ∙ ap (λ (v : Outgoing). waiting_on channel v.output) e

pub row-waits : (x : Inside) (channel n : ℕ) (slots : List Slot) (value : Outgoing) → outgoing_of x ≡ value → slots ≡ map slot_of (row_of x) → n ≡ slots_length_on channel slots → x.begun_on ≢ channel → n ≡ waiting_on channel value.output
row-waits x channel n slots value e row h other = other-waiting x channel n (row-waiting x channel n slots row h) other ∙ ap (λ (v : Outgoing). waiting_on channel v.output) e

-- what is staged begins with a frame, where it isn't empty
pub record BeginsWith (frames : List Frame) : Type 0 where
  pub first : Frame
  pub later : List Frame
  pub frames_are : frames ≡ first ∷ later

pub begins : (frames : List Frame) → 0 < length frames → BeginsWith frames
begins [] h = absurd (omega arith)
begins (f ∷ later) h = record { first = f; later = later; frames_are = refl }

-- the first frame that is staged, by its slot
pub record FirstStaged (x : Inside) (slot : Slot) (count : ℕ) (f : Frame) (later : List Frame) : Type 0 where
  pub staged : staged_of x ≡ f ∷ later
  pub slot_is : slot_of f ≡ slot
  pub count_is : count ≡ length f.payload + 8
  pub within : x.arranged + count ≤ length (all_octets x)

pub first_staged : (x : Inside) (value : Outgoing) (slot : Slot) (count : ℕ) (f : Frame) (later : List Frame) (waiting d : Waiting) → OutboxIsSound x → outgoing_of x ≡ value → value.staged ≡ f ∷ later → waiting ≡ get_or x.slots.items x.slots_arranged d → slot ≡ waiting.slot → count ≡ slot_length slot → FirstStaged x slot count f later
first_staged x value slot count f later waiting d s e staged at slot_at size =
    let staged2 : staged_of x ≡ f ∷ later = ap (λ (v : Outgoing). v.staged) e ∙ staged in
    let first = first-staged x d.slot f later s staged2 in
    let slot_is : slot ≡ slot_of f = slot_at ∙ (ap (λ (w : Waiting). w.slot) at ∙ (sym (slot-at x.slots.items x.slots_arranged d first.1) ∙ first.0)) in
    let count_is : count ≡ length f.payload + 8 = size ∙ ap slot_length slot_is in
    let l = laid_out x s in
    let a = ap length s.staged_encoded in
    let b = ap length (ap stream staged2) ∙ length-append (octets f) (stream later) in
    let c = length-octets f in
    let h = length-drop x.arranged (all_octets x) in
    let g = s.arranged in
    record { staged = staged2; slot_is = sym slot_is; count_is = count_is; within = omega arith }

-- the first frame that is staged is put, and the others are still to be put
pub put-more : (old new : Outgoing) → 0 < length old.staged → IsPutOfFirst old new → (all_put new ≡ all_put old) × (length old.staged ≡ length new.staged + 1)
put-more old new some put =
    let b = begins old.staged some in
    let n = put b.first b.later b.frames_are in
    let put_is : all_put new ≡ all_put old = ap all_put n ∙ ap (λ staged. only (after_puts staged old.output)) (sym b.frames_are) in
    let staged = ap (λ (v : Outgoing). length v.staged) n in
    let count = ap length b.frames_are in
    (put_is, omega arith)
