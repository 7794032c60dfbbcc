-- What the calls of an outbox make of its laps.
use Rattle.std.proofs.Common.{◌≡◌, ℕ, ◌+◌, ◌-◌, ◌^◌, ◌<◌, ◌≤◌, List, [], ◌∷◌, ◌++◌, length, map, take, drop, set, refl, sym, ap, ap₂, ◌∙◌, arith, append_assoc, append-nil, length-append, length-drop, take-append-drop}
use Rattle.std.proofs.lemmas.List.{drop_at, take_at, length-map, length-take-le, take-map, drop-map, drop-take, map-append, set_at}
use Rattle.amqp_frame.specs.Frame.{Frame}
use Rattle.amqp_outbox.specs.OutboxSlots.{slot_of, slots_last, moved_up}
use Rattle.amqp_outbox.specs.OutboxLaps.{laps_in, laps_of, laps_last, TakesLap}
use Rattle.amqp_outbox.specs.OutboxFields.{row_laps, row_of, staged_of, all_slots, all_laps, OutboxIsSound}
use Rattle.amqp_outbox.specs.declared.slots.Slot.{Slot}
use Rattle.amqp_outbox.specs.declared.slots.Waiting.{Waiting}
use Rattle.amqp_outbox.specs.declared.outbox.Outbox.TheInside.{Inside}
use Rattle.amqp_outbox.proofs.OutboxLaps.{laps-from, laps_last-most, length-laps}
use Rattle.amqp_outbox.proofs.OutboxLists.{moved_up-is, last_of_three, length-second}
use Rattle.amqp_outbox.proofs.OutboxWaiting.{count-slots, laps-before, laps-after}
use Rattle.amqp_outbox.proofs.OutboxStates.{IsInLaps, in_laps, laid_out, slots_within}

-- nothing of the laps changes
pub same_laps : (x y : Inside) → OutboxIsSound x → all_laps y ≡ all_laps x → y.lap ≡ x.lap → y.last ≡ x.last → y.slots_begun ≡ x.slots_begun
    → IsInLaps y (take x.slots_begun (all_laps x)) (row_laps x) (drop x.slots_arranged (all_laps x)) (row_of x) (staged_of x)
same_laps x y s laps lap last begun =
    let i = in_laps x s in
    let left = i.left in
    record {
      laps = laps ∙ i.laps;
      past_are = i.past_are ∙ sym begun;
      laps_are = i.laps_are ∙ ap₂ (λ p w. laps_of p w (map slot_of (row_of x))) (sym lap) (sym last);
      rest_are = i.rest_are;
      left = omega arith;
    }

-- the laps of the frames that are begun are dropped
pub laps-dropped : (x y : Inside) → OutboxIsSound x → all_laps y ≡ drop x.slots_begun (all_laps x) → y.lap ≡ x.lap → y.last ≡ x.last → y.slots_begun ≡ 0
    → IsInLaps y [] (row_laps x) (drop x.slots_arranged (all_laps x)) (row_of x) (staged_of x)
laps-dropped x y s laps lap last begun =
    let i = in_laps x s in
    let left = i.left in
    record {
      laps = laps ∙ (ap (drop x.slots_begun) i.laps ∙ drop_at (take x.slots_begun (all_laps x)) (row_laps x ++ drop x.slots_arranged (all_laps x)) x.slots_begun i.past_are);
      past_are = sym begun;
      laps_are = i.laps_are ∙ ap₂ (λ p w. laps_of p w (map slot_of (row_of x))) (sym lap) (sym last);
      rest_are = i.rest_are;
      left = omega arith;
    }

-- a lap is provided for a frame that is staged
pub laps-staged : (x y : Inside) (f : Frame) → OutboxIsSound x → all_laps y ≡ all_laps x ++ 0 ∷ []
    → x.lap + (length x.slots.items - x.slots_begun) + 2 < 2 ^ 64 → y.lap ≡ x.lap → y.last ≡ x.last → y.slots_begun ≡ x.slots_begun
    → IsInLaps y (take x.slots_begun (all_laps x)) (row_laps x) (drop x.slots_arranged (all_laps x) ++ 0 ∷ []) (row_of x) (staged_of x ++ f ∷ [])
laps-staged x y f s laps left lap last begun =
    let i = in_laps x s in
    let a = s.slots_begun in
    let b = slots_within x s in
    let all = count-slots x.slots.items in
    let rest_are = i.rest_are in
    let e = ap length s.row_described in
    let e2 = length-second (all_slots x) x.slots_begun x.slots_arranged a b in
    let g = ap length s.staged_described ∙ length-drop x.slots_arranged (all_slots x) in
    let h = length-append (staged_of x) (f ∷ []) in
    let j = length-append (drop x.slots_arranged (all_laps x)) (0 ∷ []) in
    let k = length-map (row_of x) slot_of in
    let l = length-map (staged_of x) slot_of in
    record {
      laps = laps ∙ (ap (λ xs. xs ++ 0 ∷ []) i.laps ∙ last_of_three (take x.slots_begun (all_laps x)) (row_laps x) (drop x.slots_arranged (all_laps x)) (0 ∷ []));
      past_are = i.past_are ∙ sym begun;
      laps_are = i.laps_are ∙ ap₂ (λ p w. laps_of p w (map slot_of (row_of x))) (sym lap) (sym last);
      rest_are = omega arith;
      left = omega arith;
    }

-- the laps of what is staged are dropped
pub laps-kept : (x y : Inside) → OutboxIsSound x → all_laps y ≡ take x.slots_arranged (all_laps x) → y.lap ≡ x.lap → y.last ≡ x.last → y.slots_begun ≡ x.slots_begun
    → IsInLaps y (take x.slots_begun (all_laps x)) (row_laps x) [] (row_of x) []
laps-kept x y s laps lap last begun =
    let i = in_laps x s in
    let left = i.left in
    let past = take x.slots_begun (all_laps x) in
    let own = row_laps x in
    let rest = drop x.slots_arranged (all_laps x) in
    let past_are = i.past_are in
    let a = length-append past own in
    let b = ap length i.laps_are ∙ (length-laps x.lap x.last (map slot_of (row_of x)) ∙ length-map (row_of x) slot_of) in
    let c = (laid_out x s).slots_arranged in
    record {
      laps = laps ∙ (ap (take x.slots_arranged) (i.laps ∙ sym (append_assoc past own rest)) ∙ (take_at (past ++ own) rest x.slots_arranged (omega arith) ∙ ap (λ xs. past ++ xs) (sym (append-nil own))));
      past_are = i.past_are ∙ sym begun;
      laps_are = i.laps_are ∙ ap₂ (λ p w. laps_of p w (map slot_of (row_of x))) (sym lap) (sym last);
      rest_are = omega arith;
      left = omega arith;
    }

-- so many frames are begun
pub laps-written : (x y : Inside) (k : ℕ) → OutboxIsSound x → k ≤ length (row_of x) → all_laps y ≡ all_laps x → y.lap ≡ laps_last x.lap x.last (take k (map slot_of (row_of x)))
    → y.last ≡ slots_last x.last (take k (map slot_of (row_of x))) → y.slots_begun ≡ x.slots_begun + k
    → IsInLaps y (take x.slots_begun (all_laps x) ++ take k (row_laps x)) (drop k (row_laps x)) (drop x.slots_arranged (all_laps x)) (drop k (row_of x)) (staged_of x)
laps-written x y k s few laps lap last begun =
    let i = in_laps x s in
    let left = i.left in
    let past = take x.slots_begun (all_laps x) in
    let own = row_laps x in
    let rest = drop x.slots_arranged (all_laps x) in
    let slots = map slot_of (row_of x) in
    let count = ap length i.laps_are ∙ (length-laps x.lap x.last slots ∙ length-map (row_of x) slot_of) in
    let a = length-take-le k own (omega arith) in
    let b = length-append past (take k own) in
    let c = length-map (row_of x) slot_of in
    let d = laps_last-most x.lap x.last (take k slots) in
    let e = length-take-le k slots (omega arith) in
    let g = length-drop k (row_of x) in
    let past_are = i.past_are in
    record {
      laps = laps ∙ (i.laps ∙ (ap (λ xs. past ++ (xs ++ rest)) (sym (take-append-drop k own)) ∙ (ap (λ xs. past ++ xs) (append_assoc (take k own) (drop k own) rest) ∙ sym (append_assoc past (take k own) (drop k own ++ rest)))));
      past_are = omega arith;
      laps_are = ap (drop k) i.laps_are ∙ (laps-from k x.lap x.last slots ∙ (ap₂ (λ p w. laps_of p w (drop k slots)) (sym lap) (sym last) ∙ ap (laps_of y.lap y.last) (drop-map slot_of k (row_of x))));
      rest_are = i.rest_are;
      left = omega arith;
    }

-- The first frame that is staged is put, after so many of the row.
pub laps-put : (x y : Inside) (f : Frame) (later : List Frame) (p its : ℕ) → OutboxIsSound x → staged_of x ≡ f ∷ later → p ≤ length (row_of x) → TakesLap its x.lap x.last p (slot_of f) (map slot_of (row_of x))
    → all_laps y ≡ moved_up (x.slots_begun + p) (x.slots_arranged + 1) 1 (set (all_laps x) x.slots_arranged its) → y.lap ≡ x.lap → y.last ≡ x.last → y.slots_begun ≡ x.slots_begun
    → IsInLaps y (take x.slots_begun (all_laps x)) (take p (row_laps x) ++ its ∷ drop p (row_laps x)) (drop 1 (drop x.slots_arranged (all_laps x))) (take p (row_of x) ++ f ∷ drop p (row_of x)) later
laps-put x y f later p its s staged few takes laps lap last begun = cases (drop x.slots_arranged (all_laps x)) refl
  where
    cases : (rest : List ℕ) → drop x.slots_arranged (all_laps x) ≡ rest
        → IsInLaps y (take x.slots_begun (all_laps x)) (take p (row_laps x) ++ its ∷ drop p (row_laps x)) (drop 1 (drop x.slots_arranged (all_laps x))) (take p (row_of x) ++ f ∷ drop p (row_of x)) later
    cases [] e = let a = (in_laps x s).rest_are in let b = ap length e in let c = ap length staged in absurd (omega arith)
    cases (old ∷ rest) e =
        let i = in_laps x s in
        let left = i.left in
        let past = take x.slots_begun (all_laps x) in
        let own = row_laps x in
        let row = row_of x in
        let slots = map slot_of row in
        let past_are = i.past_are in
        let rest_are = i.rest_are in
        let count = ap length i.laps_are ∙ (length-laps x.lap x.last slots ∙ length-map row slot_of) in
        let a = length-append past own in
        let b = length-take-le p own (omega arith) in
        let c = length-append past (take p own) in
        let d = length-drop p own in
        let rows = ap length s.row_described in
        let rows2 = length-second (all_slots x) x.slots_begun x.slots_arranged s.slots_begun (slots_within x s) in
        let row_count = length-map row slot_of in
        let whole : all_laps x ≡ (past ++ own) ++ old ∷ rest = i.laps ∙ (ap (λ xs. past ++ (own ++ xs)) e ∙ sym (append_assoc past own (old ∷ rest))) in
        let written : set (all_laps x) x.slots_arranged its ≡ (past ++ own) ++ its ∷ rest = ap (λ xs. set xs x.slots_arranged its) whole ∙ set_at (past ++ own) old rest its x.slots_arranged (omega arith) in
        let parted : (past ++ own) ++ its ∷ rest ≡ (past ++ take p own) ++ (drop p own ++ (its ∷ [] ++ rest)) =
        append_assoc past own (its ∷ rest)
        ∙ (ap (λ xs. past ++ (xs ++ its ∷ rest)) (sym (take-append-drop p own))
        ∙ (ap (λ xs. past ++ xs) (append_assoc (take p own) (drop p own) (its ∷ rest)) ∙ sym (append_assoc past (take p own) (drop p own ++ its ∷ rest)))) in
        let moved : all_laps y ≡ (past ++ take p own) ++ (its ∷ [] ++ (drop p own ++ rest)) =
        laps
        ∙ (ap (moved_up (x.slots_begun + p) (x.slots_arranged + 1) 1) (written ∙ parted)
        ∙ moved_up-is (past ++ take p own) (drop p own) (its ∷ []) rest (x.slots_begun + p) (x.slots_arranged + 1) 1 (omega arith) (omega arith) refl) in
        let grouped : (past ++ take p own) ++ (its ∷ [] ++ (drop p own ++ rest)) ≡ past ++ ((take p own ++ its ∷ drop p own) ++ rest) =
        append_assoc past (take p own) (its ∷ (drop p own ++ rest)) ∙ ap (λ xs. past ++ xs) (sym (append_assoc (take p own) (its ∷ drop p own) rest)) in
        let slots_then : map slot_of (take p row ++ f ∷ drop p row) ≡ take p slots ++ slot_of f ∷ drop p slots =
        map-append slot_of (take p row) (f ∷ drop p row) ∙ ap₂ (λ xs ys. xs ++ slot_of f ∷ ys) (sym (take-map slot_of p row)) (sym (drop-map slot_of p row)) in
        let g = ap length e in
        let h = ap length staged in
        let j = length-append (take p row) (f ∷ drop p row) in
        let k = length-take-le p row few in
        let l = length-drop p row in
        record {
          laps = moved ∙ (grouped ∙ ap (λ xs. past ++ ((take p own ++ its ∷ drop p own) ++ drop 1 xs)) (sym e));
          past_are = past_are ∙ sym begun;
          laps_are = ap (λ xs. take p xs ++ its ∷ drop p xs) i.laps_are ∙ (sym takes ∙ (ap₂ (λ p2 w. laps_of p2 w (take p slots ++ slot_of f ∷ drop p slots)) (sym lap) (sym last) ∙ ap (laps_of y.lap y.last) (sym slots_then)));
          rest_are = let m = ap length (ap (drop 1) e) in omega arith;
          left = omega arith;
        }

-- the laps of the row, as they are lent
pub laps-lent : (x : Inside) (items : List Waiting) (slots : List Slot) → OutboxIsSound x → items ≡ x.slots.items → slots ≡ map slot_of (row_of x) → laps_in (take (x.slots_arranged - x.slots_begun) (drop x.slots_begun items)) ≡ laps_of x.lap x.last slots
laps-lent x items slots s e f =
    let a = s.slots_begun in
    let b : laps_in (take (x.slots_arranged - x.slots_begun) (drop x.slots_begun items)) ≡ row_laps x =
    ap (λ ss. laps_in (take (x.slots_arranged - x.slots_begun) (drop x.slots_begun ss))) e
    ∙ (laps-before (x.slots_arranged - x.slots_begun) (drop x.slots_begun x.slots.items)
    ∙ (ap (take (x.slots_arranged - x.slots_begun)) (laps-after x.slots_begun x.slots.items)
    ∙ (sym (drop-take x.slots_begun (x.slots_arranged - x.slots_begun) (all_laps x)) ∙ ap (λ n. drop x.slots_begun (take n (all_laps x))) (omega arith)))) in
    b ∙ (s.laps_are ∙ ap (laps_of x.lap x.last) (sym s.row_described ∙ sym f))
