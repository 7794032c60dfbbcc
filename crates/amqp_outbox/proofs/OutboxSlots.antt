-- Counting along slots.
use Rattle.std.proofs.Common.{◌≡◌, ℕ, suc, ◌+◌, ◌-◌, ◌<◌, ◌≤◌, Bool, true, false, cond, ◌==◌, nat_lt, List, [], ◌∷◌, ◌++◌, length, get_or, take, drop, refl, sym, ap, ◌∙◌, arith, inr, lt-ltb, le-ltb, ne_eqb}
use Rattle.std.proofs.lemmas.List.{take_more, drop_more, drop_all, take-append-drop}
use Rattle.std.proofs.lemmas.Bool.{cond-true, cond-false}
use Rattle.amqp_outbox.specs.OutboxSlots.{slot_length, slots_length, slots_length_on, slots_begun_on, slot_turn, slot_last, slots_last, turns_before, begun_by, EndsWithChannel}
use Rattle.amqp_outbox.specs.declared.slots.Slot.{Slot}

pub slots_length-append : (xs ys : List Slot) → slots_length (xs ++ ys) ≡ slots_length xs + slots_length ys
slots_length-append [] ys = omega arith
slots_length-append (x ∷ xs) ys = let a = slots_length-append xs ys in omega arith

pub slots_last-append : (last : ℕ) (xs ys : List Slot) → slots_last last (xs ++ ys) ≡ slots_last (slots_last last xs) ys
slots_last-append last [] ys = refl
slots_last-append last (x ∷ xs) ys = slots_last-append (slot_last last x) xs ys

pub slots_begun_on-append : (begun_on : ℕ) (xs : List Slot) (x : Slot) → slots_begun_on begun_on (xs ++ x ∷ []) ≡ x.channel
slots_begun_on-append begun_on [] x = refl
slots_begun_on-append begun_on (y ∷ xs) x = slots_begun_on-append y.channel xs x

pub slots_length_on-append : (channel : ℕ) (xs ys : List Slot) → slots_length_on channel (xs ++ ys) ≡ slots_length_on channel xs + slots_length_on channel ys
slots_length_on-append channel [] ys = omega arith
slots_length_on-append channel (x ∷ xs) ys = let a = slots_length_on-append channel xs ys in omega arith

-- one slot more
pub slots_begun_on-more : (begun_on : ℕ) (xs : List Slot) (i : ℕ) (d : Slot) → i < length xs → slots_begun_on begun_on (take (i + 1) xs) ≡ (get_or xs i d).channel
slots_begun_on-more begun_on xs i d h = ap (slots_begun_on begun_on) (take_more xs i d h) ∙ slots_begun_on-append begun_on (take i xs) (get_or xs i d)

pub slots_length_on-more : (channel : ℕ) (xs : List Slot) (i : ℕ) (d : Slot) → i < length xs
    → slots_length_on channel (take (i + 1) xs) ≡ slots_length_on channel (take i xs) + cond ((get_or xs i d).channel == channel) (slot_length (get_or xs i d)) 0
slots_length_on-more channel xs i d h =
    let a = ap (slots_length_on channel) (take_more xs i d h) ∙ slots_length_on-append channel (take i xs) (get_or xs i d ∷ []) in
    omega arith

-- those of a channel are no longer than all
pub slots_length_on-most : (channel : ℕ) (xs : List Slot) → slots_length_on channel xs ≤ slots_length xs
slots_length_on-most channel [] = omega arith
slots_length_on-most channel (x ∷ xs) = cases (x.channel == channel) (slots_length_on-most channel xs)
  where
    cases : (own : Bool) → slots_length_on channel xs ≤ slots_length xs → cond own (slot_length x) 0 + slots_length_on channel xs ≤ slot_length x + slots_length xs
    cases true h = omega arith
    cases false h = omega arith

pub slots_length-more : (xs : List Slot) (i : ℕ) (d : Slot) → i < length xs → slots_length (take (i + 1) xs) ≡ slots_length (take i xs) + slot_length (get_or xs i d)
slots_length-more xs i d h =
    let a = ap slots_length (take_more xs i d h) ∙ slots_length-append (take i xs) (get_or xs i d ∷ []) in
    omega arith

pub slots_last-more : (last : ℕ) (xs : List Slot) (i : ℕ) (d : Slot) → i < length xs → slots_last last (take (i + 1) xs) ≡ slot_last (slots_last last (take i xs)) (get_or xs i d)
slots_last-more last xs i d h = ap (slots_last last) (take_more xs i d h) ∙ slots_last-append last (take i xs) (get_or xs i d ∷ [])

-- a part is no longer than the whole
pub slots_length-part : (xs : List Slot) (i : ℕ) → slots_length (take i xs) + slots_length (drop i xs) ≡ slots_length xs
slots_length-part xs i = sym (slots_length-append (take i xs) (drop i xs)) ∙ ap slots_length (take-append-drop i xs)

-- what is known of a row, as far as it was read, of which so many octets are written
pub record BegunSoFar (slots : List Slot) (octets last i frames passed now : ℕ) : Type 0 where
  pub frames_are : frames ≡ i
  pub passed_is : passed ≡ slots_length (take i slots)
  pub now_is : now ≡ slots_last last (take i slots)
  pub count : i + begun_by (octets - passed) (drop i slots) ≡ begun_by octets slots

pub begun-first : (slots : List Slot) (octets last : ℕ) → BegunSoFar slots octets last 0 0 0 last
begun-first slots octets last = record { frames_are = refl; passed_is = refl; now_is = refl; count = grind arith }

pub begun-more : (slots : List Slot) (octets last i frames passed now : ℕ) (d : Slot) → i < length slots → passed < octets → BegunSoFar slots octets last i frames passed now
    → BegunSoFar slots octets last (i + 1) (frames + 1) (passed + slot_length (get_or slots i d)) (slot_last now (get_or slots i d))
begun-more slots octets last i frames passed now d h k b =
    let s = get_or slots i d in
    let a = slots_length-more slots i d h in
    let e : begun_by (octets - passed) (drop i slots) ≡ begun_by (octets - passed) (s ∷ drop (i + 1) slots) = ap (begun_by (octets - passed)) (drop_more slots i d h) in
    let g : begun_by (octets - passed) (s ∷ drop (i + 1) slots) ≡ suc (begun_by ((octets - passed) - slot_length s) (drop (i + 1) slots)) = cond-false ((octets - passed) == 0) _ _ (ne_eqb (octets - passed) 0 (λ z. omega arith)) in
    let m : (octets - passed) - slot_length s ≡ octets - (passed + slot_length s) = omega arith in
    let n = ap (λ k. begun_by k (drop (i + 1) slots)) m in
    let p = b.count in
    let q = b.passed_is in
    let r = b.frames_are in
    record {
      frames_are = omega arith;
      passed_is = omega arith;
      now_is = ap (λ w. slot_last w s) b.now_is ∙ sym (slots_last-more last slots i d h);
      count = omega arith;
    }

-- where as many octets are passed, no further frame is begun
pub begun-stops : (slots : List Slot) (octets last i frames passed now : ℕ) → octets ≤ passed → BegunSoFar slots octets last i frames passed now → frames ≡ begun_by octets slots
begun-stops slots octets last i frames passed now h b =
    let a : begun_by (octets - passed) (drop i slots) ≡ 0 = ap (λ k. begun_by k (drop i slots)) (omega arith) ∙ begun-none (drop i slots) in
    let c = b.count in
    let d = b.frames_are in
    omega arith
  where
    begun-none : (xs : List Slot) → begun_by 0 xs ≡ 0
    begun-none [] = refl
    begun-none (x ∷ xs) = refl

pub begun-ends : (slots : List Slot) (octets last frames passed now : ℕ) → BegunSoFar slots octets last (length slots) frames passed now → frames ≡ begun_by octets slots
begun-ends slots octets last frames passed now b =
    let a : begun_by (octets - passed) (drop (length slots) slots) ≡ 0 = ap (begun_by (octets - passed)) (drop_all (length slots) slots (omega arith)) in
    let c = b.count in
    let d = b.frames_are in
    omega arith

-- a slot that has its turn no later is passed
pub turns-more : (last : ℕ) (slot : Slot) (slots : List Slot) (i : ℕ) (d : Slot) → i < length slots → slot_turn last (get_or slots i d) ≤ slot_turn last slot
    → i + turns_before last slot (drop i slots) ≡ (i + 1) + turns_before (slot_last last (get_or slots i d)) slot (drop (i + 1) slots)
turns-more last slot slots i d h k =
    let s = get_or slots i d in
    let a : turns_before last slot (drop i slots) ≡ turns_before last slot (s ∷ drop (i + 1) slots) = ap (turns_before last slot) (drop_more slots i d h) in
    let b : turns_before last slot (s ∷ drop (i + 1) slots) ≡ suc (turns_before (slot_last last s) slot (drop (i + 1) slots)) = cond-false (nat_lt (slot_turn last slot) (slot_turn last s)) _ _ (le-ltb (slot_turn last slot) (slot_turn last s) k) in
    omega arith

-- the first that has it later is not
pub turns-stop : (last : ℕ) (slot : Slot) (slots : List Slot) (i : ℕ) (d : Slot) → i < length slots → slot_turn last slot < slot_turn last (get_or slots i d)
    → turns_before last slot (drop i slots) ≡ 0
turns-stop last slot slots i d h k =
    ap (turns_before last slot) (drop_more slots i d h) ∙ cond-true (nat_lt (slot_turn last slot) (slot_turn last (get_or slots i d))) _ _ (lt-ltb (slot_turn last slot) (slot_turn last (get_or slots i d)) k)

pub turns-most : (last : ℕ) (slot : Slot) (slots : List Slot) → turns_before last slot slots ≤ length slots
turns-most last slot [] = omega arith
turns-most last slot (s ∷ slots) = cases (nat_lt (slot_turn last slot) (slot_turn last s)) (turns-most (slot_last last s) slot slots)
  where
    cases : (later : Bool) → turns_before (slot_last last s) slot slots ≤ length slots → cond later 0 (suc (turns_before (slot_last last s) slot slots)) ≤ suc (length slots)
    cases true h = omega arith
    cases false h = omega arith

-- the last slot of a part of them is of the channel
pub ends-with : (slots : List Slot) (i channel : ℕ) (d : Slot) → i < length slots → (get_or slots i d).channel ≡ channel → EndsWithChannel channel (take (i + 1) slots)
ends-with slots i channel d h e = inr (take i slots, get_or slots i d, take_more slots i d h, e)

-- the length as far as it was counted, one slot on
pub length-more : (slots : List Slot) (i total n : ℕ) (d : Slot) → i < length slots → total ≡ slots_length (take i slots) → n ≡ slot_length (get_or slots i d) → total + n ≡ slots_length (take (i + 1) slots)
length-more slots i total n d h e f = let a = slots_length-more slots i d h in omega arith

pub length-within : (slots : List Slot) (i total n : ℕ) (d : Slot) → i < length slots → total ≡ slots_length (take i slots) → n ≡ slot_length (get_or slots i d) → total + n ≤ slots_length slots
length-within slots i total n d h e f =
    let a = slots_length-more slots i d h in
    let b = slots_length-part slots (i + 1) in
    omega arith

-- the place is found at the first slot that has its turn later
pub place-found : (slots : List Slot) (slot : Slot) (last i start a b : ℕ) (d : Slot) → i < length slots → a ≡ slot_turn last slot → b ≡ slot_turn last (get_or slots i d) → a < b
    → i + turns_before last slot (drop i slots) ≡ start → i ≡ start
place-found slots slot last i start a b d h e f k inv =
    let s = turns-stop last slot slots i d h (omega arith) in
    omega arith

-- and it is no earlier than after one that hasn't
pub place-later : (slots : List Slot) (slot : Slot) (last i start a b now : ℕ) (d : Slot) → i < length slots → a ≡ slot_turn last slot → b ≡ slot_turn last (get_or slots i d) → b ≤ a → now ≡ slot_last last (get_or slots i d)
    → i + turns_before last slot (drop i slots) ≡ start → (i + 1) + turns_before now slot (drop (i + 1) slots) ≡ start
place-later slots slot last i start a b now d h e f k g inv =
    let s = turns-more last slot slots i d h (omega arith) in
    let t = ap (λ w. turns_before w slot (drop (i + 1) slots)) g in
    omega arith
