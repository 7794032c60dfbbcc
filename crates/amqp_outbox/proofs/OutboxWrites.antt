-- What a write makes of the fields of an outbox.
use Rattle.std.proofs.Common.{◌≡◌, ℕ, zero, suc, ◌+◌, ◌-◌, ◌<◌, ◌≤◌, Bool, true, false, cond, ◌==◌, nat_lt, List, [], ◌∷◌, ◌++◌, length, map, take, drop, refl, sym, ap, ap₂, ◌∙◌, subst, arith, append_assoc, append-nil, length-append, length-drop, take-append-drop, eqb-true, ltb-true, ltb-false, lt-ltb, le-ltb}
use Rattle.std.proofs.lemmas.Bool.{cond-true, cond-false}
use Rattle.std.proofs.lemmas.List.{take_at, length-map, length-take-le, drop_all, take-map, map-append}
use Rattle.std.proofs.lemmas.List.Elements.{All-drop}
use Rattle.amqp_frame.specs.Frame.{Frame, octets, frame_length}
use Rattle.amqp_frame.specs.Splitting.{stream}
use Rattle.amqp_model.specs.Output.Arrangement.{IsArranged, HasChannel, last_after, last_after_all}
use Rattle.amqp_model.specs.Output.Outputs.{Output, output_octets, begun_on_after, row_after_writing, after_writing}
use Rattle.amqp_outbox.specs.OutboxSlots.{slot_of, slots_length, slots_begun_on, slots_last, begun_by}
use Rattle.amqp_outbox.specs.OutboxView.{Outgoing, with_output}
use Rattle.amqp_outbox.specs.OutboxFields.{all_octets, row_of, staged_of, outgoing_of, OutboxIsSound, all_slots}
use Rattle.amqp_outbox.specs.declared.slots.Slot.{Slot}
use Rattle.amqp_outbox.specs.declared.outbox.Outbox.TheInside.{Inside}
use Rattle.amqp_outbox.proofs.OutboxLists.{drop_past, length-second}
use Rattle.amqp_outbox.proofs.OutboxRows.{stream-append, length-octets, slots_length-row, slots_begun_on-row, slots_last-row}
use Rattle.amqp_outbox.proofs.OutboxStates.{IsLaidOut, IsKept, laid_out, view, outgoing}

abbrev pub written_row : (n k begun_on last : ℕ) → List Frame → Output
written_row n k begun_on last row = record { ahead = drop n (stream (take k row)); begun_on = begun_on_after begun_on (take k row); last = last_after_all last (take k row); row = drop k row }

begun-none : (slots : List Slot) → begun_by 0 slots ≡ 0
begun-none [] = refl
begun-none (slot ∷ slots) = refl

-- what is left of a row, of which so many octets are written
pub row-written : (n on last : ℕ) (row : List Frame) → n ≤ length (stream row) → row_after_writing n on last row ≡ written_row n (begun_by n (map slot_of row)) on last row
row-written n on last [] h = ap (λ ahead. record { ahead = ahead; begun_on = on; last = last; row = [] }) (sym (drop_all n [] (omega arith)))
row-written n on last (f ∷ later) h = cases (n == 0) refl (nat_lt n (frame_length f)) refl (begun_by (n - frame_length f) (map slot_of later)) refl (row-written (n - frame_length f) f.channel (last_after last f) later)
  where
    size : length (octets f ++ stream later) ≡ frame_length f + length (stream later)
    size = length-append (octets f) (stream later) ∙ ap (λ m. m + length (stream later)) (length-octets f)

    past : (k : ℕ) → frame_length f ≤ n → drop (n - frame_length f) (stream (take k later)) ≡ drop n (octets f ++ stream (take k later))
    past k l =
        let e : frame_length f + (n - frame_length f) ≡ n = omega arith in
        sym (ap (λ m. drop m (octets f ++ stream (take k later))) (sym e) ∙ drop_past (octets f) (stream (take k later)) (frame_length f) (n - frame_length f) (length-octets f))

    cases : (none : Bool) → (n == 0) ≡ none → (inside : Bool) → nat_lt n (frame_length f) ≡ inside → (k : ℕ) → begun_by (n - frame_length f) (map slot_of later) ≡ k
        → (n - frame_length f ≤ length (stream later) → row_after_writing (n - frame_length f) f.channel (last_after last f) later ≡ written_row (n - frame_length f) k f.channel (last_after last f) later)
        → cond none (record { ahead = []; begun_on = on; last = last; row = f ∷ later }) (cond inside (record { ahead = drop n (octets f); begun_on = f.channel; last = last_after last f; row = later }) (row_after_writing (n - frame_length f) f.channel (last_after last f) later))
        ≡ written_row n (cond none 0 (suc k)) on last (f ∷ later)
    cases true z inside i k e rest = ap (λ ahead. record { ahead = ahead; begun_on = on; last = last; row = f ∷ later }) (sym (drop_all n [] (let y = eqb-true n 0 z in omega arith)))
    cases false z true i k e rest =
        let l = ltb-true n (frame_length f) i in
        let none : k ≡ 0 = sym e ∙ (ap (λ m. begun_by m (map slot_of later)) (omega arith) ∙ begun-none (map slot_of later)) in
        ap (λ os. record { ahead = drop n os; begun_on = f.channel; last = last_after last f; row = later }) (sym (append-nil (octets f)))
        ∙ ap (λ j. written_row n (suc j) on last (f ∷ later)) (sym none)
    cases false z false i k e rest =
        let l = ltb-false n (frame_length f) i in
        rest (let s = size in omega arith) ∙ ap (λ ahead. record { ahead = ahead; begun_on = begun_on_after f.channel (take k later); last = last_after_all (last_after last f) (take k later); row = drop k later }) (past k l)

-- a row is arranged from each of its frames on
pub arranged-from : (k last : ℕ) (row : List Frame) → IsArranged last row → IsArranged (last_after_all last (take k row)) (drop k row)
arranged-from zero last row h = h
arranged-from (suc k) last [] h = h
arranged-from (suc k) last (f ∷ row) h = arranged-from k (last_after last f) row h.1

-- what is kept of the row that is left
pub kept-written : (x : Inside) (k : ℕ) → OutboxIsSound x → IsKept (last_after_all x.last (take k (row_of x))) (drop k (row_of x)) (staged_of x)
kept-written x k s = record { in_turn = arranged-from k x.last (row_of x) s.in_turn; row_channels = All-drop HasChannel k (row_of x) s.row_channels; staged_channels = s.staged_channels }

-- Fewer octets are written than stand ahead.
pub ahead-written : (x y : Inside) (n : ℕ) → OutboxIsSound x → n < x.begun - x.written → all_octets y ≡ all_octets x → all_slots y ≡ all_slots x → y.written ≡ x.written + n → y.begun ≡ x.begun → y.arranged ≡ x.arranged
    → y.slots_begun ≡ x.slots_begun → y.slots_arranged ≡ x.slots_arranged
    → IsLaidOut y (take (x.written + n) (all_octets x)) (drop n (drop x.written (take x.begun (all_octets x)))) (take x.slots_begun (all_slots x)) (row_of x) (staged_of x)
ahead-written x y n s h octets slots written begun arranged slots_begun slots_arranged =
    let l = laid_out x s in
    let ahead = drop x.written (take x.begun (all_octets x)) in
    let rest = stream (row_of x) ++ stream (staged_of x) in
    let gone = take x.written (all_octets x) in
    let a = l.begun in
    let b = l.arranged in
    let c = l.slots_arranged in
    let d = l.written in
    let e : all_octets x ≡ gone ++ (take n ahead ++ (drop n ahead ++ rest)) = l.octets ∙ ap (λ os. gone ++ os) (ap (λ os. os ++ rest) (sym (take-append-drop n ahead)) ∙ append_assoc (take n ahead) (drop n ahead) rest) in
    let size = length-take-le n ahead (omega arith) in
    let f : all_octets x ≡ (gone ++ take n ahead) ++ (drop n ahead ++ rest) = e ∙ sym (append_assoc gone (take n ahead) (drop n ahead ++ rest)) in
    let size2 = length-append gone (take n ahead) in
    let g : take (x.written + n) (all_octets x) ≡ gone ++ take n ahead = ap (take (x.written + n)) f ∙ take_at (gone ++ take n ahead) (drop n ahead ++ rest) (x.written + n) (omega arith) in
    let left = length-drop n ahead in
    let whole = ap length g in
    record {
      octets = octets ∙ (f ∙ ap (λ os. os ++ (drop n ahead ++ rest)) (sym g));
      slots = slots ∙ l.slots;
      written = omega arith;
      begun = omega arith;
      arranged = omega arith;
      slots_begun = slots_begun ∙ l.slots_begun;
      slots_arranged = omega arith;
    }

-- Octets of the row are written, all that stood ahead before, and so many frames begun.
pub row-begun : (x y : Inside) (m k : ℕ) → OutboxIsSound x → k ≤ length (row_of x) → m ≤ length (stream (take k (row_of x))) → all_octets y ≡ all_octets x → all_slots y ≡ all_slots x → y.written ≡ x.begun + m
    → y.begun ≡ x.begun + length (stream (take k (row_of x))) → y.arranged ≡ x.arranged → y.slots_begun ≡ x.slots_begun + k → y.slots_arranged ≡ x.slots_arranged
    → IsLaidOut y (take (x.begun + m) (all_octets x)) (drop m (stream (take k (row_of x)))) (take (x.slots_begun + k) (all_slots x)) (drop k (row_of x)) (staged_of x)
row-begun x y m k s few h octets slots written begun arranged slots_begun slots_arranged =
    let l = laid_out x s in
    let row = row_of x in
    let staged = staged_of x in
    let gone = take x.written (all_octets x) in
    let ahead = drop x.written (take x.begun (all_octets x)) in
    let first = stream (take k row) in
    let rest = stream (drop k row) ++ stream staged in
    let past = take x.slots_begun (all_slots x) in
    let a = l.begun in
    let b = l.arranged in
    let c = l.slots_arranged in
    let d = l.written in
    let split : stream row ≡ first ++ stream (drop k row) = ap stream (sym (take-append-drop k row)) ∙ stream-append (take k row) (drop k row) in
    let e : stream row ++ stream staged ≡ take m first ++ (drop m first ++ rest) =
    ap (λ os. os ++ stream staged) split
    ∙ (append_assoc first (stream (drop k row)) (stream staged)
    ∙ (ap (λ os. os ++ rest) (sym (take-append-drop m first)) ∙ append_assoc (take m first) (drop m first) rest)) in
    let f : all_octets x ≡ ((gone ++ ahead) ++ take m first) ++ (drop m first ++ rest) =
    l.octets ∙ (ap (λ os. gone ++ (ahead ++ os)) e ∙ (sym (append_assoc gone ahead (take m first ++ (drop m first ++ rest))) ∙ sym (append_assoc (gone ++ ahead) (take m first) (drop m first ++ rest)))) in
    let size1 = length-append gone ahead in
    let size2 = length-append (gone ++ ahead) (take m first) in
    let size3 = length-take-le m first h in
    let g : take (x.begun + m) (all_octets x) ≡ (gone ++ ahead) ++ take m first = ap (take (x.begun + m)) f ∙ take_at ((gone ++ ahead) ++ take m first) (drop m first ++ rest) (x.begun + m) (omega arith) in
    let size4 = ap length g in
    let size5 = length-drop m first in
    let size6 = ap length split ∙ length-append first (stream (drop k row)) in
    let slots1 : map slot_of row ≡ map slot_of (take k row) ++ map slot_of (drop k row) = ap (map slot_of) (sym (take-append-drop k row)) ∙ map-append slot_of (take k row) (drop k row) in
    let slots2 : all_slots x ≡ (past ++ map slot_of (take k row)) ++ (map slot_of (drop k row) ++ map slot_of staged) =
    l.slots ∙ (ap (λ ss. past ++ (ss ++ map slot_of staged)) slots1 ∙ (ap (λ ss. past ++ ss) (append_assoc (map slot_of (take k row)) (map slot_of (drop k row)) (map slot_of staged)) ∙ sym (append_assoc past (map slot_of (take k row)) (map slot_of (drop k row) ++ map slot_of staged)))) in
    let count1 = length-map (take k row) slot_of in
    let count2 = length-take-le k row few in
    let count3 = length-append past (map slot_of (take k row)) in
    let count4 = l.slots_begun in
    let slots3 : take (x.slots_begun + k) (all_slots x) ≡ past ++ map slot_of (take k row) = ap (take (x.slots_begun + k)) slots2 ∙ take_at (past ++ map slot_of (take k row)) (map slot_of (drop k row) ++ map slot_of staged) (x.slots_begun + k) (omega arith) in
    let count5 = ap length slots3 in
    let count6 = length-drop k row in
    record {
      octets = octets ∙ (f ∙ ap (λ os. os ++ (drop m first ++ rest)) (sym g));
      slots = slots ∙ (slots2 ∙ ap (λ ss. ss ++ (map slot_of (drop k row) ++ map slot_of staged)) (sym slots3));
      written = omega arith;
      begun = omega arith;
      arranged = omega arith;
      slots_begun = omega arith;
      slots_arranged = omega arith;
    }

-- what a write makes of an output, where it doesn't pass what stands ahead, and where it does
pub written-ahead : (n : ℕ) (o : Output) → n < length o.ahead → after_writing n o ≡ record { ahead = drop n o.ahead; begun_on = o.begun_on; last = o.last; row = o.row }
written-ahead n o h = cond-true (nat_lt n (length o.ahead)) _ _ (lt-ltb n (length o.ahead) h)

pub written-row : (n : ℕ) (o : Output) → length o.ahead ≤ n → n ≤ length (output_octets o) → after_writing n o ≡ written_row (n - length o.ahead) (begun_by (n - length o.ahead) (map slot_of o.row)) o.begun_on o.last o.row
written-row n o h l =
    let a = length-append o.ahead (stream o.row) in
    cond-false (nat_lt n (length o.ahead)) _ _ (le-ltb n (length o.ahead) h) ∙ row-written (n - length o.ahead) o.begun_on o.last o.row (omega arith)

-- what of the row is begun by a write that passes what stands ahead
pub record IsWrite (x : Inside) (n k passed on now : ℕ) : Type 0 where
  pub ahead : length (drop x.written (take x.begun (all_octets x))) ≤ n
  pub few : k ≤ length (row_of x)
  pub reached : n - length (drop x.written (take x.begun (all_octets x))) ≤ length (stream (take k (row_of x)))
  pub count : k ≡ begun_by (n - length (drop x.written (take x.begun (all_octets x)))) (map slot_of (row_of x))
  pub passed_is : passed ≡ length (stream (take k (row_of x)))
  pub on_is : on ≡ begun_on_after x.begun_on (take k (row_of x))
  pub now_is : now ≡ last_after_all x.last (take k (row_of x))

length-ahead : (x : Inside) → OutboxIsSound x → length (drop x.written (take x.begun (all_octets x))) ≡ x.begun - x.written
length-ahead x s =
    let a = s.written in
    let b = s.begun in
    let c = s.arranged in
    let d = length-second (all_octets x) x.written x.begun s.written (omega arith) in
    omega arith

pub is_write : (x : Inside) (slots : List Slot) (n k passed on now : ℕ) → OutboxIsSound x → slots ≡ map slot_of (row_of x) → x.begun - x.written ≤ n → k ≡ begun_by (n - (x.begun - x.written)) slots → passed ≡ slots_length (take k slots)
    → on ≡ slots_begun_on x.begun_on (take k slots) → now ≡ slots_last x.last (take k slots) → k ≤ length slots → n - (x.begun - x.written) ≤ passed → IsWrite x n k passed on now
is_write x slots n k passed on now s e ahead count passed_is on_is now_is few reached =
    let a = length-ahead x s in
    let row = row_of x in
    let b : take k slots ≡ map slot_of (take k row) = ap (take k) e ∙ take-map slot_of k row in
    let c : passed ≡ length (stream (take k row)) = passed_is ∙ (ap slots_length b ∙ slots_length-row (take k row)) in
    let d = ap length e ∙ length-map row slot_of in
    record {
      ahead = omega arith;
      few = omega arith;
      reached = omega arith;
      count = count ∙ ap₂ (λ m ss. begun_by (n - m) ss) (sym a) e;
      passed_is = c;
      on_is = on_is ∙ (ap (slots_begun_on x.begun_on) b ∙ slots_begun_on-row x.begun_on (take k row));
      now_is = now_is ∙ (ap (slots_last x.last) b ∙ slots_last-row x.last (take k row));
    }

pub write-laid_out : (x y : Inside) (n k passed on now : ℕ) → OutboxIsSound x → IsWrite x n k passed on now → all_octets y ≡ all_octets x → all_slots y ≡ all_slots x → y.written ≡ x.written + n → y.begun ≡ x.begun + passed
    → y.arranged ≡ x.arranged → y.slots_begun ≡ x.slots_begun + k → y.slots_arranged ≡ x.slots_arranged
    → IsLaidOut y (take (x.begun + (n - length (drop x.written (take x.begun (all_octets x))))) (all_octets x)) (drop (n - length (drop x.written (take x.begun (all_octets x)))) (stream (take k (row_of x)))) (take (x.slots_begun + k) (all_slots x)) (drop k (row_of x)) (staged_of x)
write-laid_out x y n k passed on now s w octets slots written begun arranged slots_begun slots_arranged =
    let a = length-ahead x s in
    let b = w.ahead in
    let c = s.written in
    row-begun x y (n - length (drop x.written (take x.begun (all_octets x)))) k s w.few w.reached octets slots (omega arith) (begun ∙ ap (λ m. x.begun + m) w.passed_is) arranged slots_begun slots_arranged

pub write-kept : (x : Inside) (n k passed on now : ℕ) → OutboxIsSound x → IsWrite x n k passed on now → IsKept now (drop k (row_of x)) (staged_of x)
write-kept x n k passed on now s w = let P : ℕ → Type 0 = λ last. IsKept last (drop k (row_of x)) (staged_of x) in subst P (sym w.now_is) (kept-written x k s)

pub write_view : (x y : Inside) (n k passed on now : ℕ) (gone : List ℕ) (past : List Slot) (value : Outgoing) → outgoing_of x ≡ value → n ≤ length (output_octets value.output) → IsWrite x n k passed on now → y.begun_on ≡ on → y.last ≡ now
    → IsLaidOut y gone (drop (n - length (drop x.written (take x.begun (all_octets x)))) (stream (take k (row_of x)))) past (drop k (row_of x)) (staged_of x)
    → outgoing_of y ≡ with_output value (after_writing n value.output)
write_view x y n k passed on now gone past value e within w c g l =
    let row = row_of x in
    let m = n - length (drop x.written (take x.begun (all_octets x))) in
    let o : Output = (outgoing_of x).output in
    let P : Outgoing → Type 0 = λ v. n ≤ length (output_octets v.output) in
    let enough : n ≤ length (output_octets o) = subst P (sym e) within in
    let last : y.last ≡ last_after_all x.last (take k row) = g ∙ w.now_is in
    let begun_on : y.begun_on ≡ begun_on_after x.begun_on (take k row) = c ∙ w.on_is in
    let a : outgoing (drop m (stream (take k row))) y.begun_on y.last (drop k row) (staged_of x) ≡ outgoing (drop m (stream (take k row))) (begun_on_after x.begun_on (take k row)) (last_after_all x.last (take k row)) (drop k row) (staged_of x) = ap₂ (λ v z. outgoing (drop m (stream (take k row))) v z (drop k row) (staged_of x)) begun_on last in
    let b : written_row m k x.begun_on x.last row ≡ after_writing n o = ap (λ j. written_row m j x.begun_on x.last row) w.count ∙ sym (written-row n o w.ahead enough) in
    view y gone (drop m (stream (take k row))) past (drop k row) (staged_of x) l
    ∙ (a
    ∙ (ap (λ (z : Output). record { output = z; staged = staged_of x }) b
    ∙ ap (λ (v : Outgoing). with_output v (after_writing n v.output)) e))

-- so many octets can be written after those that stand ahead
pub row-enough : (x : Inside) (n : ℕ) (value : Outgoing) → OutboxIsSound x → outgoing_of x ≡ value → n ≤ length (output_octets value.output) → x.begun - x.written ≤ n → n - (x.begun - x.written) ≤ length (stream (row_of x))
row-enough x n value s e within ahead =
    let a = length-ahead x s in
    let P : Outgoing → Type 0 = λ v. n ≤ length (output_octets v.output) in
    let enough : n ≤ length (output_octets (outgoing_of x).output) = subst P (sym e) within in
    let b = length-append (drop x.written (take x.begun (all_octets x))) (stream (row_of x)) in
    omega arith

pub row-room : (x : Inside) (k : ℕ) → OutboxIsSound x → x.begun + length (stream (take k (row_of x))) ≤ x.arranged
row-room x k s =
    let l = laid_out x s in
    let row = row_of x in
    let a = l.arranged in
    let b = ap length (ap stream (sym (take-append-drop k row)) ∙ stream-append (take k row) (drop k row)) ∙ length-append (stream (take k row)) (stream (drop k row)) in
    omega arith
