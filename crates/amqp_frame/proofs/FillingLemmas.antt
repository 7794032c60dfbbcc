-- What a buffer is once octets of a piece were added to it.
use Rattle.std.proofs.Common.{◌≡◌, ℕ, ◌+◌, ◌-◌, ◌<◌, ◌≤◌, List, ◌++◌, length, take, drop, ◌∙◌, arith, take-add, append_assoc, length-append, length-drop, min}
use Rattle.std.proofs.lemmas.List.{length-take}
use Rattle.amqp_frame.specs.Splitting.{size_of}
use Rattle.amqp_frame.specs.Judging.{IsBegun, IsFilled}
use Rattle.amqp_frame.proofs.SplittingLemmas.{size_of-append}

-- The octets up to the size are there, and tell that the frame is too long.
pub filled_header : (limit : ℕ) (old piece new : List ℕ) (header : ℕ)
    → IsBegun limit old → header ≡ min (7 - length old) (length piece) → new ≡ old ++ take header piece → 7 ≤ length new → limit < size_of new + 8
    → IsFilled limit old piece new header
filled_header limit old piece new header begun header_is joined long past =
    let kept : 7 ≤ length old → size_of new ≡ size_of old = λ h. rw joined (size_of-append old (take header piece) h) in
    let new_length : length new ≡ length old + header = rw joined (simp (length-append, length-take) (omega arith)) in
    let sized : 7 ≤ length old → size_of old + 8 ≤ limit = begun.sized in
    let limited : length old < 7 = grind arith in
    record {
      within = omega arith;
      joined = joined;
      sized = λ _. long;
      no_further = λ _ _. omega arith;
      up_to_end = λ _ within. absurd (omega arith);
      too_long = λ _. omega arith;
    }

-- The octets up to the size are there, and more were added up to the frame's end.
pub filled_frame : (limit : ℕ) (old piece mid new : List ℕ) (header others : ℕ)
    → IsBegun limit old → header ≡ min (7 - length old) (length piece) → mid ≡ old ++ take header piece → 7 ≤ length mid
    → size_of mid + 8 ≤ limit → others ≡ min (size_of mid + 8 - length mid) (length piece - header) → new ≡ mid ++ take others (drop header piece)
    → IsFilled limit old piece new (header + others)
filled_frame limit old piece mid new header others begun header_is mid_is long within others_is new_is =
    let kept : 7 ≤ length old → size_of mid ≡ size_of old = λ h. rw mid_is (size_of-append old (take header piece) h) in
    let mid_length : length mid ≡ length old + header = rw mid_is (simp (length-append, length-take) (omega arith)) in
    let short : 7 ≤ length old → length old < size_of old + 8 = begun.short in
    let mid_short : length mid ≤ size_of mid + 8 = grind arith in
    let room : others ≤ length (drop header piece) = simp length-drop (omega arith) in
    let new_length : length new ≡ length mid + others = rw new_is (simp (length-append, length-take) (omega arith)) in
    let size : size_of new ≡ size_of mid = rw new_is (size_of-append mid (take others (drop header piece)) long) in
    record {
      within = omega arith;
      joined = new_is ∙ rw (mid_is, take-add header others piece) (append_assoc old (take header piece) (take others (drop header piece)));
      sized = λ _. omega arith;
      no_further = λ _ _. rw size (omega arith);
      up_to_end = λ left _. rw size (omega arith);
      too_long = λ past. absurd (omega (arith, rw size at past));
    }
