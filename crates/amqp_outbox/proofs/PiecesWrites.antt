-- What a write leaves, frame by frame; and frames that are staged.
use Rattle.std.proofs.Common.{◌≡◌, ℕ, ◌+◌, ◌-◌, ◌<◌, ◌≤◌, Bool, true, false, cond, ◌==◌, nat_lt, List, [], ◌∷◌, ◌++◌, length, drop, refl, sym, ap, ap₂, ◌∙◌, arith, append-nil, eqb-true, ne_eqb, le-ltb, lt-ltb, length-drop}
use Rattle.std.specs.Prelude.{Result, Ok, Err, OnOk}
use Rattle.std.proofs.lemmas.Bool.{cond-true, cond-false}
use Rattle.amqp_frame.specs.Frame.{Frame, octets, frame_length}
use Rattle.amqp_model.specs.Output.Arrangement.{last_after}
use Rattle.amqp_model.specs.Output.Outputs.{Output, row_after_writing, after_writing}
use Rattle.amqp_outbox.specs.OutboxSlots.{slot_of, frame_in}
use Rattle.amqp_outbox.specs.PiecesQueues.{frame_of, IsChunk}
use Rattle.amqp_outbox.specs.PiecesWrites.{left_of}
use Rattle.amqp_outbox.specs.declared.slots.Slot.{Slot}
use Rattle.amqp_outbox.specs.declared.queues.Chunk.{Chunk}
use Rattle.amqp_outbox.proofs.OutboxRows.{length-octets, frame-read}

pub if-ok : {T E : Type 0} (r : Result T E) {P Q : Type 0} → (P → Q) → OnOk r P → OnOk r Q
if-ok (Ok x) f h = f h
if-ok (Err e) f h = h

abbrev pub output : (ahead : List ℕ) (on last : ℕ) (row : List Frame) → Output
output ahead on last row = record { ahead = ahead; begun_on = on; last = last; row = row }

none-written : (on last : ℕ) (row : List Frame) → row_after_writing 0 on last row ≡ output [] on last row
none-written on last [] = refl
none-written on last (f ∷ row) = refl

-- what is left where no frame is begun
pub left-is : (octets on last : ℕ) (row : List Frame) → left_of octets (output [] on last row) ≡ row_after_writing octets on last row
left-is octets on last row = by (octets == 0) refl
  where
    by : (b : Bool) → (octets == 0) ≡ b → cond b (output [] on last row) (row_after_writing octets on last row) ≡ row_after_writing octets on last row
    by true e = sym (ap (λ n. row_after_writing n on last row) (eqb-true octets 0 e) ∙ none-written on last row)
    by false e = refl

pub nothing-left : (n : ℕ) (items : List ℕ) → length items ≤ n → drop n items ≡ []
nothing-left n items h = by (drop n items) (let l = length-drop n items in omega arith)
  where
    by : (xs : List ℕ) → length xs ≡ 0 → xs ≡ []
    by [] e = refl
    by (x ∷ xs) e = absurd (omega arith)

-- what is begun is written, and so many octets of others
pub begun-written : (octets written on last : ℕ) (items : List ℕ) (row : List Frame) → written ≤ length items → length items - written ≤ octets
    → left_of (octets - (length items - written)) (output (drop (length items) items) on last row) ≡ after_writing octets (output (drop written items) on last row)
begun-written octets written on last items row w h =
    let l = length-drop written items in
    let rest = octets - (length items - written) in
    let same : rest ≡ octets - length (drop written items) = omega arith in
    ap (λ a. left_of rest (output a on last row)) (nothing-left (length items) items (omega arith))
    ∙ (left-is rest on last row
    ∙ sym (cond-false (nat_lt octets (length (drop written items))) _ _ (le-ltb octets (length (drop written items)) (omega arith)) ∙ ap (λ n. row_after_writing n on last row) (sym same)))

-- the next frame is begun, and some of it is left
pub frame-begun : (n on last : ℕ) (f : Frame) (later : List Frame) (items : List ℕ) → items ≡ octets f → 0 < n → n < length items
    → output (drop n items) f.channel (last_after last f) later ≡ left_of n (output [] on last (f ∷ later))
frame-begun n on last f later items is some h =
    let l = ap length is ∙ length-octets f in
    ap (λ x. output (drop n x) f.channel (last_after last f) later) is
    ∙ sym (cond-false (n == 0) _ _ (ne_eqb n 0 (λ e. omega arith)) ∙ (cond-false (n == 0) _ _ (ne_eqb n 0 (λ e. omega arith)) ∙ cond-true (nat_lt n (frame_length f)) _ _ (lt-ltb n (frame_length f) (omega arith))))

-- or all of it is written
pub frame-written : (n on last : ℕ) (f : Frame) (later : List Frame) (items : List ℕ) → items ≡ octets f → 0 < n → length items ≤ n
    → left_of (n - length items) (output (drop (length items) items) f.channel (last_after last f) later) ≡ left_of n (output [] on last (f ∷ later))
frame-written n on last f later items is some h =
    let l = ap length is ∙ length-octets f in
    ap (λ a. left_of (n - length items) (output a f.channel (last_after last f) later)) (nothing-left (length items) items (omega arith))
    ∙ (left-is (n - length items) f.channel (last_after last f) later
    ∙ (ap (λ k. row_after_writing (n - k) f.channel (last_after last f) later) l
    ∙ sym (cond-false (n == 0) _ _ (ne_eqb n 0 (λ e. omega arith)) ∙ (cond-false (n == 0) _ _ (ne_eqb n 0 (λ e. omega arith)) ∙ cond-false (nat_lt n (frame_length f)) _ _ (le-ltb n (frame_length f) (omega arith))))))

-- a frame by its octets and its slot
pub chunk-is : (f : Frame) (chunk : Chunk) → chunk.slot ≡ slot_of f → chunk.octets.items ≡ octets f → frame_of chunk ≡ f
chunk-is f chunk s e = ap₂ frame_in s (e ∙ sym (append-nil (octets f))) ∙ frame-read f []

pub is-chunk : (f : Frame) (chunk : Chunk) → chunk.slot ≡ slot_of f → chunk.octets.items ≡ octets f → f.channel < 65536 → IsChunk chunk
is-chunk f chunk s e c =
    let i = chunk-is f chunk s e in
    record { encoded = ap octets i ∙ sym e; described = ap slot_of i ∙ sym s; channel = rw (ap (λ (x : Slot). x.channel) s) c }

-- a frame alone
pub length-alone : (f : Frame) (old new : List ℕ) → old ≡ [] → new ≡ old ++ octets f → length new ≡ length f.payload + 8
length-alone f old new none is = ap length (is ∙ ap (λ l. l ++ octets f) none) ∙ length-octets f

pub some-octets : (f : Frame) (items : List ℕ) → items ≡ octets f → 0 < length items
some-octets f items e = let l = ap length e ∙ length-octets f in omega arith

-- no frame waits
pub none-begun : (n on last : ℕ) → 0 < n → output [] on last [] ≡ left_of n (output [] on last [])
none-begun n on last some = sym (cond-false (n == 0) _ _ (ne_eqb n 0 (λ e. omega arith)))
