-- Rows of frames, their octets and their slots.
use Rattle.std.proofs.Common.{◌≡◌, ℕ, suc, ◌+◌, ◌==◌, Bool, true, false, cond, nat_lt, List, [], ◌∷◌, ◌++◌, length, map, take, drop, refl, sym, ap, ap₂, ◌∙◌, arith, append_assoc, append-nil, length-append}
use Rattle.std.proofs.lemmas.List.{take_at, drop_at}
use Rattle.amqp_frame.specs.Frame.{Frame, octets, frame_length, END}
use Rattle.amqp_frame.specs.Splitting.{stream}
use Rattle.amqp_model.specs.Output.Arrangement.{last_after, last_after_all, on, placed, turn}
use Rattle.amqp_model.specs.Output.Outputs.{begun_on_after}
use Rattle.amqp_outbox.specs.OutboxSlots.{slot_of, slot_length, slots_length, slots_length_on, slots_begun_on, frame_in, frames_in, slots_last, turns_before}

pub length-octets : (f : Frame) → length (octets f) ≡ frame_length f
unfolding octets
length-octets f = simp length-append (omega arith)

pub stream-append : (xs ys : List Frame) → stream (xs ++ ys) ≡ stream xs ++ stream ys
stream-append [] ys = refl
stream-append (f ∷ xs) ys = ap (λ l. octets f ++ l) (stream-append xs ys) ∙ sym (append_assoc (octets f) (stream xs) (stream ys))

payload-read : (f : Frame) (tail : List ℕ) → take (length f.payload) (drop 7 (octets f ++ tail)) ≡ f.payload
unfolding octets
payload-read f tail = rw (append_assoc f.payload (END ∷ []) tail) (take_at f.payload (END ∷ tail) (length f.payload) refl)

with_payload : Frame → List ℕ → Frame
with_payload f payload = record { kind = f.kind; channel = f.channel; payload = payload }

-- a frame is read by its slot
pub frame-read : (f : Frame) (tail : List ℕ) → frame_in (slot_of f) (octets f ++ tail) ≡ f
unfolding with_payload
frame-read f tail = ap (with_payload f) (payload-read f tail)

-- the frames of a row are read by their slots
pub frames-read : (row : List Frame) (tail : List ℕ) → frames_in (map slot_of row) (stream row ++ tail) ≡ row
frames-read [] tail = refl
frames-read (f ∷ row) tail =
    let e : (octets f ++ stream row) ++ tail ≡ octets f ++ (stream row ++ tail) = append_assoc (octets f) (stream row) tail in
    let g : frame_in (slot_of f) ((octets f ++ stream row) ++ tail) ≡ f = ap (frame_in (slot_of f)) e ∙ frame-read f (stream row ++ tail) in
    let h : drop (slot_length (slot_of f)) ((octets f ++ stream row) ++ tail) ≡ stream row ++ tail = ap (drop (slot_length (slot_of f))) e ∙ drop_at (octets f) (stream row ++ tail) (slot_length (slot_of f)) (length-octets f) in
    ap₂ (λ x y. x ∷ y) g (ap (frames_in (map slot_of row)) h ∙ frames-read row tail)

pub row-read : (row : List Frame) → frames_in (map slot_of row) (stream row) ≡ row
row-read row = ap (frames_in (map slot_of row)) (sym (append-nil (stream row))) ∙ frames-read row []

pub slots_length-row : (row : List Frame) → slots_length (map slot_of row) ≡ length (stream row)
slots_length-row [] = refl
slots_length-row (f ∷ row) =
    let a = slots_length-row row in
    let b = length-octets f in
    let c = length-append (octets f) (stream row) in
    omega arith

pub slots_begun_on-row : (begun_on : ℕ) (row : List Frame) → slots_begun_on begun_on (map slot_of row) ≡ begun_on_after begun_on row
slots_begun_on-row begun_on [] = refl
slots_begun_on-row begun_on (f ∷ row) = slots_begun_on-row f.channel row

pub slots_length_on-row : (channel : ℕ) (row : List Frame) → slots_length_on channel (map slot_of row) ≡ length (stream (on channel row))
slots_length_on-row channel [] = refl
slots_length_on-row channel (f ∷ row) = cases (f.channel == channel) (slots_length_on-row channel row)
  where
    cases : (own : Bool) → slots_length_on channel (map slot_of row) ≡ length (stream (on channel row))
        → cond own (slot_length (slot_of f)) 0 + slots_length_on channel (map slot_of row) ≡ length (stream (cond own (f ∷ on channel row) (on channel row)))
    cases true h =
        let b = length-octets f in
        let c = length-append (octets f) (stream (on channel row)) in
        omega arith
    cases false h = omega (arith, h)

pub slots_last-row : (last : ℕ) (row : List Frame) → slots_last last (map slot_of row) ≡ last_after_all last row
slots_last-row last [] = refl
slots_last-row last (f ∷ row) = slots_last-row (last_after last f) row

-- a frame is placed after those that have their turn no later, up to the first that has it later
pub placed-is : (last : ℕ) (f : Frame) (row : List Frame) → placed last f row ≡ take (turns_before last (slot_of f) (map slot_of row)) row ++ f ∷ drop (turns_before last (slot_of f) (map slot_of row)) row
placed-is last f [] = refl
placed-is last f (g ∷ later) = cases (nat_lt (turn last f) (turn last g)) (turns_before (last_after last g) (slot_of f) (map slot_of later)) (placed-is (last_after last g) f later)
  where
    cases : (sooner : Bool) (n : ℕ) → placed (last_after last g) f later ≡ take n later ++ f ∷ drop n later → cond sooner (f ∷ g ∷ later) (g ∷ placed (last_after last g) f later) ≡ take (cond sooner 0 (suc n)) (g ∷ later) ++ f ∷ drop (cond sooner 0 (suc n)) (g ∷ later)
    cases true n e = refl
    cases false n e = ap (λ l. g ∷ l) e
