-- A body that comes part by part: its frames begin, are filled and end.
use Rattle.std.proofs.Common.{◌≡◌, ◌<◌, ◌≤◌, ◌+◌, ◌-◌, ◌*◌, ◌/◌, ℕ, zero, suc, min, List, [], ◌∷◌, ◌++◌, length, take, drop, length-append, length-drop, take-append-drop, refl, ap, ap₂, sym, ◌∙◌, arith, append_assoc}
use Rattle.std.proofs.Math.Nat.{div-eq_of_lt}
use Rattle.std.proofs.lemmas.List.{length-take-le, take_at, drop_at}
use Rattle.amqp_frame.specs.Frame.{header, octets, END}
use Rattle.amqp_frame.specs.Splitting.{stream}
use Rattle.amqp_frame.specs.declared.frames.FrameKind.TheVariants.{Body}
use Rattle.amqp_outbox.specs.BodyToCome.{Goes, octets_left, rest_framed, still_to_write}
use Rattle.amqp_outbox.specs.OutboxFrames.{body_frame, body_frames}
use Rattle.amqp_outbox.specs.declared.body.BodyWriter.{BodyWriter}
use Rattle.amqp_outbox.proofs.BodyParts.{counted, frames_more, frames_none, length_more, part_appended}
use Rattle.amqp_outbox.proofs.LentBraids.{drop-past}

-- what is left where a frame is begun
rest_open : (channel room begun : ℕ) (rest : List ℕ) → 0 < begun
    → rest_framed channel room begun rest ≡ take begun rest ++ END ∷ stream (body_frames channel room (drop begun rest))
rest_open channel room zero rest some = absurd (omega arith)
rest_open channel room (suc n) rest some = refl

-- A frame begins.
pub opened : (channel room size : ℕ) (later before : List ℕ) → 0 < room → 0 < length later → size ≡ min (length later) room
    → (before ++ header Body channel size) ++ rest_framed channel room size later ≡ before ++ stream (body_frames channel room later)
opened channel room size later before some more size_is =
    let start = header Body channel size in
    let part = take size later in
    let after = stream (body_frames channel room (drop size later)) in
    let long : length part ≡ size = length-take-le size later (omega arith) in
    ap (λ r. (before ++ start) ++ r) (rest_open channel room size later (omega arith))
    ∙ (sym (append_assoc (before ++ start) part (END ∷ after))
    ∙ (sym (append_assoc ((before ++ start) ++ part) (END ∷ []) after)
    ∙ (ap (λ l. l ++ after) (part_appended channel size part before (before ++ start) long refl)
    ∙ (append_assoc before (octets (body_frame channel part)) after
    ∙ ap (λ frames. before ++ stream frames) (sym (frames_more channel room size later (drop size later) some more size_is refl))))))

take-past : (xs ys : List ℕ) (n : ℕ) → length xs ≤ n → take n (xs ++ ys) ≡ xs ++ take (n - length xs) ys
take-past [] ys n h = let e : n ≡ n - 0 = omega arith in ap (λ k. take k ys) e
take-past (x ∷ xs) ys zero h = absurd (omega arith)
take-past (x ∷ xs) ys (suc n) h =
    let e : n - length xs ≡ suc n - length (x ∷ xs) = omega arith in
    ap (λ l. x ∷ l) (take-past xs ys n (omega arith) ∙ ap (λ k. xs ++ take k ys) e)

-- A part comes that does not fill its frame.
pub filled_in_part : (channel room begun left : ℕ) (part later before : List ℕ) → length part + left ≡ begun → 0 < left
    → (before ++ part) ++ rest_framed channel room left later ≡ before ++ rest_framed channel room begun (part ++ later)
filled_in_part channel room begun left part later before open_is some =
    let k : begun - length part ≡ left = omega arith in
    let within : length part ≤ begun = omega arith in
    append_assoc before part (rest_framed channel room left later)
    ∙ ap (λ l. before ++ l)
    (ap (λ l. part ++ l) (rest_open channel room left later some)
    ∙ (sym (append_assoc part (take left later) (END ∷ stream (body_frames channel room (drop left later))))
    ∙ (ap₂ (λ t d. t ++ END ∷ stream (body_frames channel room d))
    (sym (take-past part later begun within ∙ ap (λ n. part ++ take n later) k))
    (sym (drop-past part later begun within ∙ ap (λ n. drop n later) k))
    ∙ sym (rest_open channel room begun (part ++ later) (omega arith)))))

-- A part comes that fills its frame.
pub filled_whole : (channel room begun : ℕ) (part later before : List ℕ) → length part ≡ begun → 0 < begun
    → ((before ++ part) ++ END ∷ []) ++ stream (body_frames channel room later) ≡ before ++ rest_framed channel room begun (part ++ later)
filled_whole channel room begun part later before open_is some =
    let after = stream (body_frames channel room later) in
    append_assoc (before ++ part) (END ∷ []) after
    ∙ (append_assoc before part (END ∷ after)
    ∙ ap (λ l. before ++ l)
    (ap₂ (λ t d. t ++ END ∷ stream (body_frames channel room d)) (sym (take_at part later begun open_is)) (sym (drop_at part later begun open_is))
    ∙ sym (rest_open channel room begun (part ++ later) some)))

pub all_taken : (xs : List ℕ) → take (length xs) xs ≡ xs
all_taken [] = refl
all_taken (x ∷ xs) = ap (λ l. x ∷ l) (all_taken xs)

-- Octets that stand last change nothing before them.
pub behind : (n : ℕ) (xs ys before : List ℕ) → n ≡ length before → take n xs ≡ before → take n (xs ++ ys) ≡ before
behind zero xs ys before n_is e = e
behind (suc n) [] ys before n_is e = let l = ap length e in absurd (omega arith)
behind (suc n) (x ∷ xs) ys [] n_is e = absurd (omega arith)
behind (suc n) (x ∷ xs) ys (b ∷ before) n_is e =
    let same : n ≡ length before = omega arith in
    let here : take n xs ≡ before = ap (drop 1) e in
    let first : x ∷ take n xs ≡ b ∷ before = e in
    ap (λ l. x ∷ l) (behind n xs ys before same here) ∙ (ap (λ l. x ∷ l) (sym here) ∙ first)

-- One part after another.

-- how a part is written octet by octet: this is the rest of it
pub record Going (first : BodyWriter) (before part : List ℕ) (now : BodyWriter) (written rest : List ℕ) : Type 0 where
  pub framed : (later : List ℕ) → length rest + length later ≡ octets_left now
      → written ++ still_to_write now (rest ++ later) ≡ before ++ still_to_write first (part ++ later)
  pub fewer : octets_left now + length part ≡ octets_left first + length rest
  pub kept : take (length before) written ≡ before
  pub channel : now.channel ≡ first.channel
  pub room : now.room ≡ first.room

pub longer : (before written wrote : List ℕ) → take (length written) wrote ≡ written → take (length before) written ≡ before → take (length before) wrote ≡ before
longer before written wrote kept e =
    let m = length written in
    ap (take (length before)) (sym (take-append-drop m wrote) ∙ ap (λ t. t ++ drop m wrote) kept)
    ∙ behind (length before) written (drop m wrote) before refl e

pub goes_once : (first now new : BodyWriter) (before written wrote part rest this later : List ℕ)
    → Going first before part now written rest → Goes now written this new wrote → take (length written) wrote ≡ written
    → new.channel ≡ now.channel → new.room ≡ now.room → rest ≡ this ++ later
    → Going first before part new wrote later
goes_once first now new before written wrote part rest this later going goes kept channel room rest_is = record {
  framed = λ more sized.
      let a = length-append this later in
      let b = length-append later more in
      let c = ap length rest_is in
      let d = goes.fewer in
      goes.framed (later ++ more) (omega arith)
      ∙ (ap (λ l. written ++ still_to_write now l) (sym (append_assoc this later more) ∙ ap (λ r. r ++ more) (sym rest_is))
      ∙ going.framed more (omega arith));
  fewer = let a = length-append this later in let c = ap length rest_is in let d = goes.fewer in let e = going.fewer in omega arith;
  kept = longer before written wrote kept going.kept;
  channel = channel ∙ going.channel;
  room = room ∙ going.room;
}

-- nothing of it is written yet, and all of it
pub goes_not_yet : (first : BodyWriter) (before part : List ℕ) → Going first before part first before part
goes_not_yet first before part = record {
  framed = λ later sized. refl;
  fewer = refl;
  kept = all_taken before;
  channel = refl;
  room = refl;
}

pub has_gone : (first now : BodyWriter) (before written part rest : List ℕ) → Going first before part now written rest → rest ≡ []
    → Goes first before part now written
has_gone first now before written part rest going none = record {
  framed = λ later sized.
      let a = going.fewer in
      let b = ap length none in
      ap (λ r. written ++ still_to_write now (r ++ later)) (sym none) ∙ going.framed later (omega arith);
  fewer = let a = going.fewer in let b = ap length none in omega arith;
}

-- how many octets all frames of a body have
pub framed_length : (k channel room : ℕ) (body : List ℕ) → 0 < room → length body ≤ k
    → length (stream (body_frames channel room body)) ≡ length body + 8 * ((length body + room - 1) / room)
framed_length k channel room [] some most =
    let none : (0 + room - 1) / room ≡ 0 = div-eq_of_lt (omega arith) in
    ap (λ frames. length (stream frames)) (frames_none channel room [] some refl) ∙ omega (arith, none)
framed_length zero channel room (x ∷ body) some most = absurd (omega arith)
framed_length (suc k) channel room (x ∷ body) some most =
    let all = x ∷ body in
    let n = length all in
    let more : 0 < n = omega arith in
    let size = min n room in
    let rest = drop size all in
    let d = length-drop size all in
    let fewer : length rest ≤ k = omega arith in
    let left : length rest ≡ n - room = omega arith in
    let a = length_more channel room size all rest some more refl refl in
    let b = framed_length k channel room rest some fewer in
    let c = counted room n some more in
    let e : (length rest + room - 1) / room ≡ (n - room + room - 1) / room = ap (λ m. (m + room - 1) / room) left in
    omega (arith, a, b, c, d, e)

one_more : (xs ys : List ℕ) → length (xs ++ END ∷ ys) ≡ length xs + (1 + length ys)
one_more xs ys = let a = length-append xs (END ∷ ys) in omega arith

-- how many octets are left to be written
pub rest_length : (channel room begun ends : ℕ) (body : List ℕ) → 0 < room → begun ≤ length body → ends ≡ min begun 1
    → length (rest_framed channel room begun body) ≡ length body + 8 * ((length body - begun + room - 1) / room) + ends
rest_length channel room zero ends body some within ends_is =
    let a = framed_length (length body) channel room body some (omega arith) in
    let c : (length body - 0 + room - 1) / room ≡ (length body + room - 1) / room = ap (λ m. (m + room - 1) / room) (omega arith) in
    omega (arith, a, c)
rest_length channel room (suc n) ends body some within ends_is =
    let rest = drop (suc n) body in
    let a = framed_length (length rest) channel room rest some (omega arith) in
    let d = length-drop (suc n) body in
    let e = length-take-le (suc n) body within in
    let f = one_more (take (suc n) body) (stream (body_frames channel room rest)) in
    let c : (length rest + room - 1) / room ≡ (length body - suc n + room - 1) / room = ap (λ m. (m + room - 1) / room) d in
    omega (arith, a, c, d, e, f)
