-- Lists of frames that wait, by their slots and by their laps.
use Rattle.std.proofs.Common.{◌≡◌, ℕ, zero, suc, ◌+◌, ◌-◌, ◌<◌, ◌≤◌, ◌≢◌, ◌==◌, true, false, List, [], ◌∷◌, ◌++◌, length, map, take, drop, get_or, set, refl, sym, ap, ap₂, ◌∙◌, subst, arith, eq-eqb, ne_eqb}
use Rattle.std.proofs.lemmas.Bool.{cond-true, cond-false}
use Rattle.std.proofs.lemmas.List.{length-map, take-map, drop-map, get_or-map, map-append, take_rest}
use Rattle.amqp_outbox.specs.OutboxSlots.{slots_in, slot_length, slots_length, slots_length_on, slots_begun_on, slot_last, slots_last, EndsWithChannel, moved_up}
use Rattle.amqp_outbox.specs.OutboxLaps.{laps_in, lap_after, laps_last, is_after, count_until, AreInOrder, Counts}
use Rattle.amqp_outbox.specs.declared.slots.Slot.{Slot}
use Rattle.amqp_outbox.specs.declared.slots.Waiting.{Waiting}
use Rattle.amqp_outbox.proofs.OutboxSlots.{length-more, length-within, slots_begun_on-more, slots_length_on-more, slots_length_on-most, BegunSoFar, begun-more, ends-with}
use Rattle.amqp_outbox.proofs.OutboxLaps.{lap-begun, Searched, search-begun, search-all, search-lower, search-higher}

pub count-slots : (row : List Waiting) → length (slots_in row) ≡ length row
count-slots row = length-map row (λ (w : Waiting). w.slot)

pub count-laps : (row : List Waiting) → length (laps_in row) ≡ length row
count-laps row = length-map row (λ (w : Waiting). w.lap)

pub slots-after : (n : ℕ) (row : List Waiting) → slots_in (drop n row) ≡ drop n (slots_in row)
slots-after n row = sym (drop-map (λ (w : Waiting). w.slot) n row)

pub laps-after : (n : ℕ) (row : List Waiting) → laps_in (drop n row) ≡ drop n (laps_in row)
laps-after n row = sym (drop-map (λ (w : Waiting). w.lap) n row)

pub slots-before : (n : ℕ) (row : List Waiting) → slots_in (take n row) ≡ take n (slots_in row)
slots-before n row = sym (take-map (λ (w : Waiting). w.slot) n row)

pub laps-before : (n : ℕ) (row : List Waiting) → laps_in (take n row) ≡ take n (laps_in row)
laps-before n row = sym (take-map (λ (w : Waiting). w.lap) n row)

pub slots-rest : (n : ℕ) (row : List Waiting) → slots_in (take (length row - n) (drop n row)) ≡ drop n (slots_in row)
slots-rest n row = ap slots_in (take_rest row n) ∙ slots-after n row

pub laps-rest : (n : ℕ) (row : List Waiting) → laps_in (take (length row - n) (drop n row)) ≡ drop n (laps_in row)
laps-rest n row = ap laps_in (take_rest row n) ∙ laps-after n row

pub slot-at : (row : List Waiting) (i : ℕ) (d : Waiting) → i < length row → get_or (slots_in row) i d.slot ≡ (get_or row i d).slot
slot-at row i d h = get_or-map (λ (w : Waiting). w.slot) row i d d.slot h

pub lap-at : (row : List Waiting) (i : ℕ) (d : Waiting) → i < length row → get_or (laps_in row) i 0 ≡ (get_or row i d).lap
lap-at row i d h = get_or-map (λ (w : Waiting). w.lap) row i d 0 h

within-slots : (row : List Waiting) (i : ℕ) → i < length row → i < length (slots_in row)
within-slots row i h = let a = count-slots row in omega arith

pub few : (row : List Waiting) (n : ℕ) → n ≤ length row → n ≤ length (slots_in row)
few row n h = let a = count-slots row in omega arith

-- the length as far as it was counted, one frame on
pub length-next : (row : List Waiting) (i total n : ℕ) (d : Waiting) → i < length row → total ≡ slots_length (take i (slots_in row)) → n ≡ slot_length (get_or row i d).slot → total + n ≡ slots_length (take (i + 1) (slots_in row))
length-next row i total n d h e f = length-more (slots_in row) i total n d.slot (within-slots row i h) e (f ∙ ap slot_length (sym (slot-at row i d h)))

pub length-most : (row : List Waiting) (i total n : ℕ) (d : Waiting) → i < length row → total ≡ slots_length (take i (slots_in row)) → n ≡ slot_length (get_or row i d).slot → total + n ≤ slots_length (slots_in row)
length-most row i total n d h e f = length-within (slots_in row) i total n d.slot (within-slots row i h) e (f ∙ ap slot_length (sym (slot-at row i d h)))

-- a count along the rest of a row, as it is lent
pub counts-lent : (at n own : ℕ) (row : List Waiting) → Counts at n (slots_in (take (length row - own) (drop own row))) (laps_in (take (length row - own) (drop own row))) → Counts at n (drop own (slots_in row)) (drop own (laps_in row))
counts-lent at n own row h = subst (λ (x : List Slot). Counts at n x (drop own (laps_in row))) (slots-rest own row) (subst (λ (x : List ℕ). Counts at n (slots_in (take (length row - own) (drop own row))) x) (laps-rest own row) h)

-- one frame more is begun
pub begun-next : (row : List Waiting) (octets last i frames passed now : ℕ) (d : Waiting) → i < length row → passed < octets → BegunSoFar (slots_in row) octets last i frames passed now
    → BegunSoFar (slots_in row) octets last (i + 1) (frames + 1) (passed + slot_length (get_or row i d).slot) (slot_last now (get_or row i d).slot)
begun-next row octets last i frames passed now d h k b =
    subst (λ (s : Slot). BegunSoFar (slots_in row) octets last (i + 1) (frames + 1) (passed + slot_length s) (slot_last now s)) (slot-at row i d h) (begun-more (slots_in row) octets last i frames passed now d.slot (within-slots row i h) k b)

pub begun_on-next : (begun_on : ℕ) (row : List Waiting) (i : ℕ) (d : Waiting) → i < length row → (get_or row i d).slot.channel ≡ slots_begun_on begun_on (take (i + 1) (slots_in row))
begun_on-next begun_on row i d h = ap (λ (s : Slot). s.channel) (sym (slot-at row i d h)) ∙ sym (slots_begun_on-more begun_on (slots_in row) i d.slot (within-slots row i h))

-- the length of a channel's frames as far as it was counted, one frame on: its own, and one of another channel
pub length_on-next : (channel : ℕ) (row : List Waiting) (i total n : ℕ) (d : Waiting) → i < length row → total ≡ slots_length_on channel (take i (slots_in row)) → (get_or row i d).slot.channel ≡ channel
    → n ≡ slot_length (get_or row i d).slot → total + n ≡ slots_length_on channel (take (i + 1) (slots_in row))
length_on-next channel row i total n d h e own f =
    let at = slot-at row i d h in
    let a = slots_length_on-more channel (slots_in row) i d.slot (within-slots row i h) in
    let b = cond-true ((get_or (slots_in row) i d.slot).channel == channel) (slot_length (get_or (slots_in row) i d.slot)) 0 (eq-eqb _ _ (ap (λ (s : Slot). s.channel) at ∙ own)) in
    let g = ap slot_length at in
    omega arith

pub length_on-past : (channel : ℕ) (row : List Waiting) (i total : ℕ) (d : Waiting) → i < length row → total ≡ slots_length_on channel (take i (slots_in row)) → (get_or row i d).slot.channel ≢ channel
    → total ≡ slots_length_on channel (take (i + 1) (slots_in row))
length_on-past channel row i total d h e other =
    let at = slot-at row i d h in
    let a = slots_length_on-more channel (slots_in row) i d.slot (within-slots row i h) in
    let b = cond-false ((get_or (slots_in row) i d.slot).channel == channel) (slot_length (get_or (slots_in row) i d.slot)) 0 (ne_eqb _ _ (λ same. other (ap (λ (s : Slot). s.channel) (sym at) ∙ same))) in
    omega arith

pub length_on-most : (channel : ℕ) (row : List Waiting) (i total n : ℕ) (d : Waiting) → i < length row → total ≡ slots_length_on channel (take i (slots_in row)) → n ≡ slot_length (get_or row i d).slot
    → total + n ≤ slots_length (slots_in row)
length_on-most channel row i total n d h e f =
    let a = slots_length_on-most channel (take i (slots_in row)) in
    let b = length-most row i (slots_length (take i (slots_in row))) n d h refl f in
    omega arith

pub lap-next : (lap last i its now more : ℕ) (row : List Waiting) (d : Waiting) → i < length row → its ≡ laps_last lap last (take i (slots_in row)) → now ≡ slots_last last (take i (slots_in row)) → more ≡ lap_after its now (get_or row i d).slot
    → more ≡ laps_last lap last (take (i + 1) (slots_in row))
lap-next lap last i its now more row d h e f g =
    lap-begun lap last i its now more (slots_in row) d.slot (within-slots row i h) e f (g ∙ ap (lap_after its now) (sym (slot-at row i d h)))

-- the last frame of a part is of the channel
pub ends-at : (row : List Waiting) (i channel : ℕ) (d : Waiting) → i < length row → (get_or row i d).slot.channel ≡ channel → EndsWithChannel channel (take (i + 1) (slots_in row))
ends-at row i channel d h e = ends-with (slots_in row) i channel d.slot (within-slots row i h) (ap (λ (s : Slot). s.channel) (slot-at row i d h) ∙ e)

pub ends-before : (row : List Waiting) (n channel : ℕ) (d : Waiting) → 0 < n → n ≤ length row → (get_or row (n - 1) d).slot.channel ≡ channel → EndsWithChannel channel (take n (slots_in row))
ends-before row n channel d some h e =
    let same : n - 1 + 1 ≡ n = omega arith in
    subst (λ (k : ℕ). EndsWithChannel channel (take k (slots_in row))) same (ends-at row (n - 1) channel d (omega arith) e)

-- a search for the count along a row
pub search-start : (at : ℕ) (row : List Waiting) → Searched at (slots_in row) (laps_in row) 0 (length row)
search-start at row = subst (λ (n : ℕ). Searched at (slots_in row) (laps_in row) 0 n) (count-slots row) (search-begun at (slots_in row) (laps_in row))

pub search-down : (at : ℕ) (row : List Waiting) (low high middle : ℕ) (d : Waiting) → Searched at (slots_in row) (laps_in row) low high → low ≤ middle → middle < high → high ≤ length row
    → is_after at (get_or row middle d).slot (get_or row middle d).lap ≡ true → Searched at (slots_in row) (laps_in row) low middle
search-down at row low high middle d s l h w e =
    search-lower at (slots_in row) (laps_in row) low high middle d.slot s l h (ap₂ (is_after at) (slot-at row middle d (omega arith)) (lap-at row middle d (omega arith)) ∙ e)

pub search-up : (at : ℕ) (row : List Waiting) (low high middle : ℕ) (d : Waiting) → Searched at (slots_in row) (laps_in row) low high → low ≤ middle → middle < high → high ≤ length row
    → is_after at (get_or row middle d).slot (get_or row middle d).lap ≡ false → Searched at (slots_in row) (laps_in row) (middle + 1) high
search-up at row low high middle d s l h w e =
    search-higher at (slots_in row) (laps_in row) low high middle d.slot s l h (ap₂ (is_after at) (slot-at row middle d (omega arith)) (lap-at row middle d (omega arith)) ∙ e)

pub as_many : (row : List Waiting) → length (slots_in row) ≡ length (laps_in row)
as_many row = count-slots row ∙ sym (count-laps row)

pub search-last : (at : ℕ) (row : List Waiting) (n : ℕ) (d : Waiting) → n ≡ length row → 0 < n → is_after at (get_or row (n - 1) d).slot (get_or row (n - 1) d).lap ≡ false
    → AreInOrder at (slots_in row) (laps_in row) → n ≡ count_until at (slots_in row) (laps_in row)
search-last at row n d e some h o =
    search-all at (slots_in row) (laps_in row) n d.slot (e ∙ sym (count-slots row)) some (ap₂ (is_after at) (slot-at row (n - 1) d (omega arith)) (lap-at row (n - 1) d (omega arith)) ∙ h) (as_many row) o

-- a row whose first frames are dropped
pub slots-dropped : (n : ℕ) (xs ys : List Waiting) → ys ≡ drop n xs → slots_in ys ≡ drop n (slots_in xs)
slots-dropped n xs ys e = ap slots_in e ∙ slots-after n xs

pub laps-dropped_in : (n : ℕ) (xs ys : List Waiting) → ys ≡ drop n xs → laps_in ys ≡ drop n (laps_in xs)
laps-dropped_in n xs ys e = ap laps_in e ∙ laps-after n xs

pub slots-taken : (n : ℕ) (xs ys : List Waiting) → ys ≡ take n xs → slots_in ys ≡ take n (slots_in xs)
slots-taken n xs ys e = ap slots_in e ∙ slots-before n xs

pub laps-taken : (n : ℕ) (xs ys : List Waiting) → ys ≡ take n xs → laps_in ys ≡ take n (laps_in xs)
laps-taken n xs ys e = ap laps_in e ∙ laps-before n xs

-- a frame that gets its lap, and moves up
pub map-moved_up : {X Y : Type 0} (g : X → Y) (place end count : ℕ) (xs : List X) → map g (moved_up place end count xs) ≡ moved_up place end count (map g xs)
map-moved_up g place end count xs =
    let a = map-append g (take place xs) (drop (end - count) (take end xs) ++ (drop place (take (end - count) xs) ++ drop end xs)) in
    let b = map-append g (drop (end - count) (take end xs)) (drop place (take (end - count) xs) ++ drop end xs) in
    let c = map-append g (drop place (take (end - count) xs)) (drop end xs) in
    let one = sym (take-map g place xs) in
    let two = sym (drop-map g (end - count) (take end xs)) ∙ ap (drop (end - count)) (sym (take-map g end xs)) in
    let three = sym (drop-map g place (take (end - count) xs)) ∙ ap (drop place) (sym (take-map g (end - count) xs)) in
    let four = sym (drop-map g end xs) in
    a ∙ (ap (λ ys. map g (take place xs) ++ ys) (b ∙ ap (λ ys. map g (drop (end - count) (take end xs)) ++ ys) c) ∙ cc (one, two, three, four))

pub moved-slots : (old new : List Waiting) (place end count : ℕ) → new ≡ moved_up place end count old → slots_in new ≡ moved_up place end count (slots_in old)
moved-slots old new place end count e = ap slots_in e ∙ map-moved_up (λ (w : Waiting). w.slot) place end count old

pub moved-laps : (old new : List Waiting) (place end count : ℕ) → new ≡ moved_up place end count old → laps_in new ≡ moved_up place end count (laps_in old)
moved-laps old new place end count e = ap laps_in e ∙ map-moved_up (λ (w : Waiting). w.lap) place end count old

pub slots-set : (row : List Waiting) (i : ℕ) (w d : Waiting) → i < length row → w.slot ≡ (get_or row i d).slot → slots_in (set row i w) ≡ slots_in row
slots-set [] i w d h e = absurd (omega arith)
slots-set (x ∷ row) zero w d h e = ap (λ (s : Slot). s ∷ slots_in row) e
slots-set (x ∷ row) (suc i) w d h e = ap (λ (ss : List Slot). x.slot ∷ ss) (slots-set row i w d (omega arith) e)

pub laps-set : (row : List Waiting) (i : ℕ) (w : Waiting) → laps_in (set row i w) ≡ set (laps_in row) i w.lap
laps-set [] i w = refl
laps-set (x ∷ row) zero w = refl
laps-set (x ∷ row) (suc i) w = ap (λ (ls : List ℕ). x.lap ∷ ls) (laps-set row i w)
