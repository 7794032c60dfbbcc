-- Where a frame is placed in a row, by the slots of the row.
use Rattle.std.proofs.Common.{◌≡◌, ℕ, ◌+◌, ◌<◌, ◌≤◌, true, ◌==◌, nat_lt, List, [], ◌∷◌, ◌++◌, length, map, take, drop, refl, sym, ap, ap₂, ◌∙◌, subst, arith, append_assoc, take-append-drop, lt-ltb, eq-eqb, ne_eqb, inl, inr}
use Rattle.std.proofs.lemmas.Bool.{cond-false, and_from}
use Rattle.std.proofs.lemmas.List.{take-map, drop-map, length-map, length-take-le}
use Rattle.amqp_frame.specs.Frame.{Frame}
use Rattle.amqp_model.specs.Output.Arrangement.{FramesOn, is_in, last_after, last_after_all, IsArranged, placed}
use Rattle.amqp_model.specs.Laws.ArrangementLaws.{PlaceIsAfterItsQueue}
use Rattle.amqp_outbox.specs.OutboxSlots.{slot_of, turns_before, EndsWithChannel}
use Rattle.amqp_outbox.specs.declared.slots.Slot.{Slot}
use Rattle.amqp_outbox.proofs.OutboxLists.{take_past, drop_past}
use Rattle.amqp_outbox.proofs.OutboxRows.{placed-is}

-- where no frame of its channel waits, the row is read from its beginning
pub from_beginning : (f : Frame) (row : List Frame) (last n : ℕ) (slot : Slot) (slots : List Slot) → slot_of f ≡ slot → map slot_of row ≡ slots → n ≡ 0 + turns_before last slot (drop 0 slots)
    → placed last f row ≡ take n row ++ f ∷ drop n row
from_beginning f row last n slot slots e g h =
    let m : turns_before last (slot_of f) (map slot_of row) ≡ n = ap₂ (turns_before last) e g ∙ omega arith in
    placed-is last f row ∙ ap (λ k. take k row ++ f ∷ drop k row) m

-- a list of slots with a last one is that of frames with a last one
pub record HasLast (frames : List Frame) (slot : Slot) : Type 0 where
  pub prefix : List Frame
  pub last : Frame
  pub frames_are : frames ≡ prefix ++ last ∷ []
  pub slot_is : slot_of last ≡ slot

last-frame : (frames : List Frame) (before : List Slot) (slot : Slot) → map slot_of frames ≡ before ++ slot ∷ [] → HasLast frames slot
last-frame [] [] slot e = cc
last-frame [] (s ∷ before) slot e = cc
last-frame (f ∷ []) [] slot e = record { prefix = []; last = f; frames_are = refl; slot_is = cc }
last-frame (f ∷ g ∷ frames) [] slot e = absurd (not_nil (let h : slot_of g ∷ map slot_of frames ≡ [] = cc in h))
  where
    not_nil : slot_of g ∷ map slot_of frames ≡ [] → ⊥
    not_nil h = cc
last-frame (f ∷ frames) (s ∷ before) slot e =
    let rest : map slot_of frames ≡ before ++ slot ∷ [] = cc in
    let l = last-frame frames before slot rest in
    record { prefix = f ∷ l.prefix; last = l.last; frames_are = ap (λ fs. f ∷ fs) l.frames_are; slot_is = l.slot_is }

pub last-of : (last : ℕ) (prefix : List Frame) (g : Frame) → 0 < g.channel → last_after_all last (prefix ++ g ∷ []) ≡ g.channel
last-of last [] g h = cond-false (g.channel == 0) _ _ (ne_eqb g.channel 0 (λ e. omega arith))
last-of last (f ∷ prefix) g h = last-of (last_after last f) prefix g h

pub in_queue : (channel : ℕ) (f : Frame) → 0 < channel → f.channel ≡ channel → is_in (FramesOn channel) f ≡ true
in_queue channel f h e = and_from (nat_lt 0 channel) (f.channel == channel) (lt-ltb 0 channel h) (eq-eqb f.channel channel e)

regroup : (prefix : List Frame) (x : Frame) (a b : List Frame) → ((prefix ++ x ∷ []) ++ a) ++ b ≡ prefix ++ x ∷ (a ++ b)
regroup prefix x a b = append_assoc (prefix ++ x ∷ []) a b ∙ append_assoc prefix (x ∷ []) (a ++ b)

-- where a frame of its channel waits, the row is read from after the last one
pub after_own : (law : PlaceIsAfterItsQueue) (f : Frame) (row : List Frame) (last own n : ℕ) (slot : Slot) (slots : List Slot) → 0 < slot.channel → 0 < own → own ≤ length slots
    → EndsWithChannel slot.channel (take own slots) → slot_of f ≡ slot → map slot_of row ≡ slots → IsArranged last row → n ≡ own + turns_before slot.channel slot (drop own slots)
    → placed last f row ≡ take n row ++ f ∷ drop n row
after_own law f row last own n slot slots above some within ends e g arranged h = cases ends
  where
    channel_is : f.channel ≡ slot.channel
    channel_is = ap (λ (s : Slot). s.channel) e

    size : length (take own slots) ≡ own
    size = length-take-le own slots within

    found : (prefix : List Frame) (own_last : Frame) → take own row ≡ prefix ++ own_last ∷ [] → own_last.channel ≡ slot.channel → placed last f row ≡ take n row ++ f ∷ drop n row
    found prefix own_last front same =
        let m = turns_before slot.channel slot (drop own slots) in
        let length_is : length (prefix ++ own_last ∷ []) ≡ own = ap length (sym front) ∙ (sym (length-map (take own row) slot_of) ∙ (ap length (sym (take-map slot_of own row) ∙ ap (take own) g) ∙ size)) in
        let row_is : row ≡ (prefix ++ own_last ∷ []) ++ drop own row = sym (take-append-drop own row) ∙ ap (λ l. l ++ drop own row) front in
        let row_is2 : row ≡ prefix ++ own_last ∷ drop own row = row_is ∙ append_assoc prefix (own_last ∷ []) (drop own row) in
        let arranged2 : IsArranged last (prefix ++ own_last ∷ drop own row) = let P : List Frame → Type 0 = λ r. IsArranged last r in subst P row_is2 arranged in
        let at_law = law last f own_last prefix (drop own row) (FramesOn slot.channel) arranged2 (in_queue slot.channel f above channel_is) (in_queue slot.channel own_last above same) in
        let last_is : last_after_all last (prefix ++ own_last ∷ []) ≡ slot.channel = last-of last prefix own_last (rw same above) ∙ same in
        let rest_slots : map slot_of (drop own row) ≡ drop own slots = sym (drop-map slot_of own row) ∙ ap (drop own) g in
        let m_is : turns_before slot.channel (slot_of f) (map slot_of (drop own row)) ≡ m = ap₂ (turns_before slot.channel) e rest_slots in
        let placed_rest : placed slot.channel f (drop own row) ≡ take m (drop own row) ++ f ∷ drop m (drop own row) = placed-is slot.channel f (drop own row) ∙ ap (λ k. take k (drop own row) ++ f ∷ drop k (drop own row)) m_is in
        let taken : take n row ≡ (prefix ++ own_last ∷ []) ++ take m (drop own row) = ap₂ take h row_is ∙ take_past (prefix ++ own_last ∷ []) (drop own row) own m length_is in
        let dropped : drop n row ≡ drop m (drop own row) = ap₂ drop h row_is ∙ drop_past (prefix ++ own_last ∷ []) (drop own row) own m length_is in
        ap (placed last f) row_is2
        ∙ (at_law
        ∙ (ap (λ l. prefix ++ own_last ∷ l) (ap (λ w. placed w f (drop own row)) last_is ∙ placed_rest)
        ∙ sym (ap₂ (λ a b. a ++ f ∷ b) taken dropped ∙ regroup prefix own_last (take m (drop own row)) (f ∷ drop m (drop own row)))))

    cases : EndsWithChannel slot.channel (take own slots) → placed last f row ≡ take n row ++ f ∷ drop n row
    cases (inl none) = let z = ap length none in absurd (let y = size in omega arith)
    cases (inr (before, s, slots_are, same)) =
        let l = last-frame (take own row) before s (sym (take-map slot_of own row) ∙ (ap (take own) g ∙ slots_are)) in
        found l.prefix l.last l.frames_are (ap (λ (x : Slot). x.channel) l.slot_is ∙ same)
