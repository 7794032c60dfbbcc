-- The place of a frame and its lap, after the last frame of its channel.
use Rattle.std.proofs.Common.{◌≡◌, ℕ, zero, suc, ◌+◌, ◌-◌, ◌<◌, ◌≤◌, Bool, true, false, cond, ◌==◌, nat_lt, inl, inr, List, [], ◌∷◌, ◌++◌, length, map, take, drop, All, get_or, refl, sym, ap, ap₂, ◌∙◌, subst, arith, append_assoc, take-append-drop, ne_eqb, le-ltb, eqb-true}
use Rattle.std.proofs.lemmas.Bool.{cond-false, and_parts}
use Rattle.std.proofs.lemmas.List.{get_or_default, get_or-drop, get_or_at, take-map, drop-map, length-take-le, length-append, get_or-take}
use Rattle.std.proofs.lemmas.List.Elements.{All-head, All-tail, All-take, All-drop}
use Rattle.amqp_frame.specs.Frame.{Frame}
use Rattle.amqp_model.specs.Output.Arrangement.{is_leaving, steps, last_after, last_after_all, IsArranged, HasChannel}
use Rattle.amqp_model.specs.Laws.ArrangementLaws.{PlaceIsAfterItsQueue}
use Rattle.amqp_outbox.specs.OutboxSlots.{slot_of, slots_in, slots_last, turns_before, EndsWithChannel, IsPlace}
use Rattle.amqp_outbox.specs.OutboxLaps.{lap_after, laps_in, laps_of, laps_last, moment, count_until, AreInOrder, Counts, TakesLap, IsLap}
use Rattle.amqp_outbox.specs.declared.slots.Slot.{Slot}
use Rattle.amqp_outbox.specs.declared.slots.Waiting.{Waiting}
use Rattle.amqp_outbox.proofs.OutboxLaps.{moves, in_order, turns-counted, Takes, laps-in, zero-in, plain-counted, laps-from, laps-append, laps-at, laps-most, length-laps}
use Rattle.amqp_outbox.proofs.OutboxLists.{take_past, drop_past}
use Rattle.amqp_outbox.proofs.OutboxPlaces.{from_beginning, after_own}
use Rattle.amqp_outbox.proofs.OutboxRows.{slots_last-row}
use Rattle.amqp_outbox.proofs.OutboxWaiting.{count-slots, slot-at, lap-at}
use Rattle.amqp_outbox.proofs.OutboxWrites.{arranged-from}

-- the channel of the last of the slots
pub ends-channel : (channel k : ℕ) (slots : List Slot) (d : Slot) → EndsWithChannel channel (take (suc k) slots) → suc k ≤ length slots → (get_or slots k d).channel ≡ channel
ends-channel channel k slots d (inl none) h = let a = length-take-le (suc k) slots h in let b = ap length none in absurd (omega arith)
ends-channel channel k slots d (inr (before, s, e, same)) h =
    let a = length-take-le (suc k) slots h in
    let b = ap length e ∙ length-append before (s ∷ []) in
    ap (λ (x : Slot). x.channel) (sym (get_or-take (suc k) slots k d (omega arith)) ∙ (ap (λ xs. get_or xs k d) e ∙ get_or_at before s [] d k (omega arith))) ∙ same

-- a channel's next turn after one of its own is in the next lap
pub next-lap : (k lap last : ℕ) (slot : Slot) (slots : List Slot) (d : Slot) → 0 < slot.channel → EndsWithChannel slot.channel (take (suc k) slots) → suc k ≤ length slots
    → get_or (laps_of lap last slots) k 0 + 1 ≡ lap_after (laps_last lap last (take (suc k) slots)) (slots_last last (take (suc k) slots)) slot
next-lap k lap last slot slots d above ends h =
    let c = ends-channel slot.channel k slots d ends h in
    let a = laps-at k lap last slots d h (rw c above) in
    let now = laps_last lap last (take (suc k) slots) in
    let w = slots_last last (take (suc k) slots) in
    let w_is : w ≡ slot.channel = a.0 ∙ c in
    let now_is : now ≡ get_or (laps_of lap last slots) k 0 = a.1 in
    let t : lap_after now w slot ≡ cond (nat_lt w slot.channel) now (suc now) = cond-false (slot.channel == 0) _ _ (ne_eqb slot.channel 0 (λ e. omega arith)) in
    let u : cond (nat_lt w slot.channel) now (suc now) ≡ suc now = cond-false (nat_lt w slot.channel) _ _ (le-ltb w slot.channel (omega arith)) in
    let v : lap_after now w slot ≡ suc now = t ∙ u in
    omega arith

last-of-row : (last : ℕ) (row : List Frame) → last < 65536 → All HasChannel row → last_after_all last row < 65536
last-of-row last [] l c = l
last-of-row last (f ∷ row) l c = last-of-row (last_after last f) row (one (f.channel == 0)) (All-tail HasChannel f row c)
  where
    one : (z : Bool) → cond z last f.channel < 65536
    one true = l
    one false = All-head HasChannel f row c

same_counts : (n a b : ℕ) (xs ys : List Slot) (ls ms : List ℕ) → a ≡ b → xs ≡ ys → ls ≡ ms → Counts a n xs ls → Counts b n ys ms
same_counts n a b xs ys ls ms e f g h = subst (λ (x : ℕ). Counts x n ys ms) e (subst (λ (x : List Slot). Counts a n x ms) f (subst (λ (x : List ℕ). Counts a n xs x) g h))

-- What stands after so many frames of a row: how many there have their turn no later than a frame, and how the laps are with it.
pub record Counted (lap last own next n : ℕ) (slot : Slot) (slots : List Slot) : Type 0 where
  pub turns : n ≡ turns_before (slots_last last (take own slots)) slot (drop own slots)
  pub laps : TakesLap next (laps_last lap last (take own slots)) (slots_last last (take own slots)) n slot (drop own slots)

counted-rest : (now w next n : ℕ) (f : Frame) (rest : List Frame) → 0 < f.channel → HasChannel f → w < 65536 → IsArranged w rest → All HasChannel rest → next ≡ lap_after now w (slot_of f)
    → (AreInOrder (moment next f.channel) (map slot_of rest) (laps_of now w (map slot_of rest)) → n ≡ count_until (moment next f.channel) (map slot_of rest) (laps_of now w (map slot_of rest)))
    → ((k : ℕ) (d : Slot) → n ≡ suc k → (get_or (map slot_of rest) k d).channel ≡ f.channel → ⊥)
    → (n ≡ turns_before w (slot_of f) (map slot_of rest)) × Takes (moment next f.channel) next now w f rest n
counted-rest now w next n f rest above fc l arranged channels next_is counted own =
    let at = moment next f.channel in
    let count = counted (in_order at now w rest l arranged channels) in
    let k = moves now w f above fc l in
    let m = k.moment_is in
    let at_is : at ≡ moment now w + steps w f.channel = omega arith in
    let own2 = λ (k : ℕ) (d : Slot) (z : count_until at (map slot_of rest) (laps_of now w (map slot_of rest)) ≡ suc k). own k d (count ∙ z) in
    let turns = turns-counted at now w f rest above fc l arranged channels at_is own2 in
    let laps = laps-in at next now w f rest above fc l arranged channels refl at_is own2 in
    (count ∙ sym turns, subst (Takes at next now w f rest) (sym count) laps)

-- the channel's own frames were all passed
pub counted-on : (slots : List Slot) (laps : List ℕ) (slot : Slot) (lap last own next n : ℕ) → 0 < slot.channel → slot.channel < 65536 → last < 65536 → laps ≡ laps_of lap last slots
    → next ≡ lap_after (laps_last lap last (take own slots)) (slots_last last (take own slots)) slot
    → (AreInOrder (moment next slot.channel) (drop own slots) (drop own laps) → n ≡ count_until (moment next slot.channel) (drop own slots) (drop own laps))
    → ((k : ℕ) (d : Slot) → n ≡ suc k → (get_or slots (own + k) d).channel ≡ slot.channel → ⊥)
    → (f : Frame) (row : List Frame) → slot_of f ≡ slot → map slot_of row ≡ slots → IsArranged last row → All HasChannel row → Counted lap last own next n slot slots
counted-on slots laps slot lap last own next n above fc l laps_are next_is counted mine f row e g arranged channels =
    let w = slots_last last (take own slots) in
    let now = laps_last lap last (take own slots) in
    let rest = drop own row in
    let rest_is : map slot_of rest ≡ drop own slots = sym (drop-map slot_of own row) ∙ ap (drop own) g in
    let w_is : w ≡ last_after_all last (take own row) = ap (slots_last last) (sym (ap (take own) g) ∙ take-map slot_of own row) ∙ slots_last-row last (take own row) in
    let arranged_rest : IsArranged w rest = subst (λ (x : ℕ). IsArranged x rest) (sym w_is) (arranged-from own last row arranged) in
    let channels_rest = All-drop HasChannel own row channels in
    let w_small : w < 65536 = subst (λ (x : ℕ). x < 65536) (sym w_is) (last-of-row last (take own row) l (All-take HasChannel own row channels)) in
    let c : f.channel ≡ slot.channel = ap (λ (s : Slot). s.channel) e in
    let laps_rest : drop own laps ≡ laps_of now w (drop own slots) = ap (drop own) laps_are ∙ laps-from own lap last slots in
    let laps_rest2 : drop own laps ≡ laps_of now w (map slot_of rest) = laps_rest ∙ ap (laps_of now w) (sym rest_is) in
    let done = counted-rest now w next n f rest (rw c above) (rw c fc) w_small arranged_rest channels_rest (next_is ∙ ap (lap_after now w) (sym e))
    (same_counts n (moment next slot.channel) (moment next f.channel) (drop own slots) (map slot_of rest) (drop own laps) (laps_of now w (map slot_of rest)) (ap (moment next) (sym c)) (sym rest_is) laps_rest2 counted)
    (λ k d z same. mine k d z (ap (λ (s : Slot). s.channel) (sym (get_or-drop own slots k d) ∙ ap (λ xs. get_or xs k d) (sym rest_is)) ∙ (same ∙ c))) in
    record {
      turns = done.0 ∙ ap₂ (turns_before w) e rest_is;
      laps = subst (λ (s : Slot). TakesLap next now w n s (drop own slots)) e (subst (λ (xs : List Slot). TakesLap next now w n (slot_of f) xs) rest_is done.1);
    }

-- the laps of the whole row, from those of what stands after so many of its frames
laps-whole : (lap last own next n : ℕ) (slot : Slot) (slots : List Slot) → own ≤ length slots → TakesLap next (laps_last lap last (take own slots)) (slots_last last (take own slots)) n slot (drop own slots)
    → TakesLap next lap last (own + n) slot slots
laps-whole lap last own next n slot slots within h =
    let w = slots_last last (take own slots) in
    let now = laps_last lap last (take own slots) in
    let front = take own slots in
    let rest = drop own slots in
    let before = laps_of lap last front in
    let after = laps_of now w rest in
    let size : length front ≡ own = length-take-le own slots within in
    let size2 : length before ≡ own = length-laps lap last front ∙ size in
    let whole : slots ≡ front ++ rest = sym (take-append-drop own slots) in
    let taken : take (own + n) slots ≡ front ++ take n rest = ap (take (own + n)) whole ∙ take_past front rest own n size in
    let dropped : drop (own + n) slots ≡ drop n rest = ap (drop (own + n)) whole ∙ drop_past front rest own n size in
    let grouped : take (own + n) slots ++ slot ∷ drop (own + n) slots ≡ front ++ (take n rest ++ slot ∷ drop n rest) = ap₂ (λ xs ys. xs ++ slot ∷ ys) taken dropped ∙ append_assoc front (take n rest) (slot ∷ drop n rest) in
    let laps_are : laps_of lap last slots ≡ before ++ after = ap (laps_of lap last) whole ∙ laps-append lap last front rest in
    let laps_taken : take (own + n) (laps_of lap last slots) ≡ before ++ take n after = ap (take (own + n)) laps_are ∙ take_past before after own n size2 in
    let laps_dropped : drop (own + n) (laps_of lap last slots) ≡ drop n after = ap (drop (own + n)) laps_are ∙ drop_past before after own n size2 in
    ap (laps_of lap last) grouped
    ∙ (laps-append lap last front (take n rest ++ slot ∷ drop n rest)
    ∙ (ap (λ xs. before ++ xs) h
    ∙ sym (ap₂ (λ xs ys. xs ++ next ∷ ys) laps_taken laps_dropped ∙ append_assoc before (take n after) (next ∷ drop n after))))

pub lap-on : (lap last own next n : ℕ) (slot : Slot) (slots : List Slot) → own ≤ length slots
    → ((f : Frame) (row : List Frame) → slot_of f ≡ slot → map slot_of row ≡ slots → IsArranged last row → All HasChannel row → Counted lap last own next n slot slots)
    → IsLap lap last slot slots (own + n) next
lap-on lap last own next n slot slots within counted f row e g arranged channels = laps-whole lap last own next n slot slots within (counted f row e g arranged channels).laps

pub place-on : (law : PlaceIsAfterItsQueue) (lap last own next n : ℕ) (slot : Slot) (slots : List Slot) (d : Slot) → 0 < slot.channel → own ≤ length slots → EndsWithChannel slot.channel (take own slots)
    → ((f : Frame) (row : List Frame) → slot_of f ≡ slot → map slot_of row ≡ slots → IsArranged last row → All HasChannel row → Counted lap last own next n slot slots)
    → IsPlace last slot slots (own + n)
place-on law lap last zero next n slot slots d above within ends counted f row e g arranged channels =
    let t = (counted f row e g arranged channels).turns in
    from_beginning f row last (0 + n) slot slots e g (ap (λ k. 0 + k) t)
place-on law lap last (suc k) next n slot slots d above within ends counted f row e g arranged channels =
    let t = (counted f row e g arranged channels).turns in
    let c = ends-channel slot.channel k slots d ends within in
    let w = (laps-at k lap last slots d within (rw c above)).0 ∙ c in
    after_own law f row last (suc k) (suc k + n) slot slots above (omega arith) within ends e g arranged (ap (λ m. suc k + m) (t ∙ ap (λ x. turns_before x slot (drop (suc k) slots)) w))

-- the place of a frame of channel 0, and its lap
pub lap-on_zero : (lap last n : ℕ) (slot : Slot) (slots : List Slot) → slot.channel ≡ 0 → IsLap lap last slot slots n 0
lap-on_zero lap last n slot slots z f row e g arranged channels =
    let c : f.channel ≡ 0 = ap (λ (s : Slot). s.channel) e ∙ z in
    subst (λ (s : Slot). TakesLap 0 lap last n s slots) e (zero-in n lap last f slots c)

pub place-on_zero : (lap last n : ℕ) (slot : Slot) (slots : List Slot) (laps : List ℕ) → slot.channel ≡ 0 → slot.leaving ≡ false → last < 65536 → laps ≡ laps_of lap last slots → Counts (moment lap last) n slots laps
    → IsPlace last slot slots n
place-on_zero lap last n slot slots laps z plain l laps_are counted f row e g arranged channels =
    let c : f.channel ≡ 0 = ap (λ (s : Slot). s.channel) e ∙ z in
    let p : is_leaving f ≡ false = ap (λ (s : Slot). s.leaving) e ∙ plain in
    let laps2 : laps ≡ laps_of lap last (map slot_of row) = laps_are ∙ ap (laps_of lap last) (sym g) in
    let count = same_counts n (moment lap last) (moment lap last) slots (map slot_of row) laps (laps_of lap last (map slot_of row)) refl (sym g) laps2 counted (in_order (moment lap last) lap last row l arranged channels) in
    let turns = plain-counted lap last f row c p l channels in
    from_beginning f row last n slot slots e g (let t : n ≡ turns_before last slot slots = count ∙ (sym turns ∙ ap₂ (turns_before last) e g) in omega arith)

-- the lap of a channel's next turn, read off the laps
pub next-lap_is : (own lap last : ℕ) (slot : Slot) (slots : List Slot) (laps : List ℕ) → 0 < own → 0 < slot.channel → laps ≡ laps_of lap last slots → EndsWithChannel slot.channel (take own slots) → own ≤ length slots
    → get_or laps (own - 1) 0 + 1 ≡ lap_after (laps_last lap last (take own slots)) (slots_last last (take own slots)) slot
next-lap_is zero lap last slot slots laps some above e ends h = absurd (omega arith)
next-lap_is (suc k) lap last slot slots laps some above e ends h =
    let k_is : suc k - 1 ≡ k = omega arith in
    ap₂ (λ xs i. get_or xs i 0 + 1) e k_is ∙ next-lap k lap last slot slots slot above ends h

pub next-lap_most : (own lap last : ℕ) (slots : List Slot) (laps : List ℕ) → 0 < own → laps ≡ laps_of lap last slots → get_or laps (own - 1) 0 ≤ lap + own
next-lap_most zero lap last slots laps some e = absurd (omega arith)
next-lap_most (suc k) lap last slots laps some e =
    let k_is : suc k - 1 ≡ k = omega arith in
    let a : get_or laps (suc k - 1) 0 ≡ get_or (laps_of lap last slots) k 0 = ap₂ (λ xs i. get_or xs i 0) e k_is in
    let m = laps-most k lap last slots in
    omega arith

pub laps-as_many : (lap last : ℕ) (slots : List Slot) (laps : List ℕ) → laps ≡ laps_of lap last slots → length laps ≡ length slots
laps-as_many lap last slots laps e = ap length e ∙ length-laps lap last slots

-- the last of the slots passed isn't of the channel
pub not-own : (slots : List Slot) (own n channel : ℕ) (e : Slot) → own + n ≤ length slots → ((get_or slots ((own + n) - 1) e).channel ≡ channel → ⊥) → (k : ℕ) (d : Slot) → n ≡ suc k → (get_or slots (own + k) d).channel ≡ channel → ⊥
not-own slots own n channel e within other k d z same =
    let i : (own + n) - 1 ≡ own + k = omega arith in
    other (ap (λ (s : Slot). s.channel) (ap (λ j. get_or slots j e) i ∙ get_or_default slots (own + k) e d (omega arith)) ∙ same)

-- a frame that leaves the connection is of channel 0
pub lap-on_leaving : (lap last n : ℕ) (slot : Slot) (slots : List Slot) → slot.leaving ≡ true → IsLap lap last slot slots n 0
lap-on_leaving lap last n slot slots t f row e g arranged channels =
    let leaves : is_leaving f ≡ true = ap (λ (s : Slot). s.leaving) e ∙ t in
    let z = eqb-true f.channel 0 (and_parts (f.channel == 0) _ leaves).0 in
    lap-on_zero lap last n slot slots (sym (ap (λ (s : Slot). s.channel) e) ∙ z) f row e g arranged channels

-- the same of the frame and of the row
pub takes-row : (its lap last p : ℕ) (f : Frame) (row : List Frame) (slot : Slot) (slots : List Slot) → slot_of f ≡ slot → map slot_of row ≡ slots → TakesLap its lap last p slot slots → TakesLap its lap last p (slot_of f) (map slot_of row)
takes-row its lap last p f row slot slots e g h = subst (λ (s : Slot). TakesLap its lap last p s (map slot_of row)) (sym e) (subst (λ (xs : List Slot). TakesLap its lap last p slot xs) (sym g) h)

-- the lap of a channel's next turn, read off the last frame of a part
pub next-at : (own lap last : ℕ) (slot : Slot) (row : List Waiting) (d : Waiting) → 0 < own → 0 < slot.channel → laps_in row ≡ laps_of lap last (slots_in row) → EndsWithChannel slot.channel (take own (slots_in row)) → own ≤ length row
    → (get_or row (own - 1) d).lap + 1 ≡ lap_after (laps_last lap last (take own (slots_in row))) (slots_last last (take own (slots_in row))) slot
next-at own lap last slot row d some above e ends h =
    let n = count-slots row in
    ap (λ (k : ℕ). k + 1) (sym (lap-at row (own - 1) d (omega arith))) ∙ next-lap_is own lap last slot (slots_in row) (laps_in row) some above e ends (omega arith)

pub next-most : (own lap last : ℕ) (row : List Waiting) (d : Waiting) → 0 < own → own ≤ length row → laps_in row ≡ laps_of lap last (slots_in row) → (get_or row (own - 1) d).lap ≤ lap + own
next-most own lap last row d some h e =
    let a = next-lap_most own lap last (slots_in row) (laps_in row) some e in
    let b = lap-at row (own - 1) d (omega arith) in
    omega arith

-- the last of the frames passed isn't of the channel
pub not-own-in : (row : List Waiting) (own n channel : ℕ) (e : Waiting) → own + n ≤ length row → ((get_or row ((own + n) - 1) e).slot.channel ≡ channel → ⊥) → (k : ℕ) (d : Slot) → n ≡ suc k → (get_or (slots_in row) (own + k) d).channel ≡ channel → ⊥
not-own-in row own n channel e within other k d z same =
    let c = count-slots row in
    not-own (slots_in row) own n channel e.slot (omega arith) (λ s. other (ap (λ (x : Slot). x.channel) (sym (slot-at row ((own + n) - 1) e (omega arith))) ∙ s)) k d z same
