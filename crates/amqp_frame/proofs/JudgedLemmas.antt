-- What octets are, as a function of them, from what a look at them finds.
use Rattle.std.proofs.Common.{◌≡◌, Bool, true, false, cond, ℕ, ◌+◌, ◌-◌, ◌<◌, ◌≤◌, ◌==◌, nat_lt, List, [], ◌∷◌, length, take, drop, get_or, Option, Some, None, refl, sym, ap, ◌∙◌, arith, eq-eqb}
use Rattle.std.proofs.lemmas.Bool.Decides.{nat_tests}
use Rattle.byteorder.specs.Endian.{big_number}
use Rattle.amqp_frame.specs.Frame.{Frame, END, type_octet}
use Rattle.amqp_frame.specs.Splitting.{size_of}
use Rattle.amqp_frame.specs.Judged.{Begun, Whole, Wrong, kind_of_type, channel_in, frame_in, frame_of_type, frame_read, judged_by_end, judged_by_size, judged_by_type, judged}
use Rattle.amqp_frame.specs.declared.faults.FrameFaultKind.{FrameFaultKind}
use Rattle.amqp_frame.specs.declared.faults.FrameFaultKind.TheVariants.{TooLarge, BadEnd}
use Rattle.amqp_frame.specs.declared.frames.FrameKind.{FrameKind}
use Rattle.amqp_frame.proofs.FrameLemmas.{same_frame}
use Rattle.amqp_frame.specs.declared.frames.FrameKind.TheVariants.{Method, Header, Body, Heartbeat}

kind_of-type : (kind : FrameKind) → kind_of_type (type_octet kind) ≡ Some kind
kind_of-type Method = refl
kind_of-type Header = refl
kind_of-type Body = refl
kind_of-type Heartbeat = refl

-- octets with a known type
typed : (limit : ℕ) (xs : List ℕ) (kind : FrameKind) → 0 < length xs → type_octet kind ≡ get_or xs 0 0 → judged_by_type limit (Some kind) xs ≡ judged limit xs
typed limit [] kind some e = absurd (omega arith)
typed limit (x ∷ xs) kind some e = ap (λ k. judged_by_type limit k (x ∷ xs)) (sym (kind_of-type kind) ∙ ap kind_of_type e)

-- octets with a known type, a size within the limit and an end octet in its place
pub judged_frame : (limit : ℕ) (xs : List ℕ) (f : Frame) (n : ℕ)
    → 7 ≤ length xs → n ≡ size_of xs + 8 → n ≤ limit → n ≤ length xs
    → type_octet f.kind ≡ get_or xs 0 0 → f.channel ≡ big_number 2 (drop 1 xs) → f.payload ≡ take (n - 1 - 7) (drop 7 xs) → get_or xs (n - 1) 0 ≡ END
    → Whole f ≡ judged limit xs
judged_frame limit [] f n long n_is within here kind channel payload end = absurd (omega arith)
judged_frame limit (x ∷ xs) f n long n_is within here kind channel payload end =
    let all : List ℕ = x ∷ xs in
    let seven : nat_lt (length all) 7 ≡ false = grind (arith, nat_tests) in
    let limited : nat_lt limit (size_of all + 8) ≡ false = grind (arith, nat_tests) in
    let there : nat_lt (length all) (size_of all + 8) ≡ false = grind (arith, nat_tests) in
    let place : n - 1 ≡ size_of all + 7 = omega arith in
    let ending : (get_or all (size_of all + 7) 0 == END) ≡ true = eq-eqb _ _ (ap (λ k. get_or all k 0) (sym place) ∙ end) in
    let same_channel : f.channel ≡ channel_in all = omega arith in
    let size : n - 1 - 7 ≡ size_of all = omega arith in
    let same_payload : f.payload ≡ take (size_of all) (drop 7 all) = payload ∙ ap (λ k. take k (drop 7 all)) size in
    let same : f ≡ frame_in f.kind all = same_frame f (frame_in f.kind all) refl same_channel same_payload in
    ap Whole same ∙ sym (simp (seven, limited, there, ending)) ∙ typed limit all f.kind (omega arith) kind

-- with no end octet in its place
pub judged_unended : (limit : ℕ) (xs : List ℕ) (kind : FrameKind) (n : ℕ)
    → 7 ≤ length xs → n ≡ size_of xs + 8 → n ≤ limit → n ≤ length xs → type_octet kind ≡ get_or xs 0 0 → (get_or xs (n - 1) 0 ≡ END → ⊥)
    → judged limit xs ≡ Wrong BadEnd
judged_unended limit xs kind n long n_is within here type open_end =
    let seven : nat_lt (length xs) 7 ≡ false = grind (arith, nat_tests) in
    let limited : nat_lt limit (size_of xs + 8) ≡ false = grind (arith, nat_tests) in
    let there : nat_lt (length xs) (size_of xs + 8) ≡ false = grind (arith, nat_tests) in
    let place : n - 1 ≡ size_of xs + 7 = omega arith in
    let other : get_or xs (size_of xs + 7) 0 ≡ END → ⊥ = λ e. open_end (ap (λ k. get_or xs k 0) place ∙ e) in
    let ending : (get_or xs (size_of xs + 7) 0 == END) ≡ false = grind (arith, nat_tests) in
    sym (typed limit xs kind (omega arith) type) ∙ simp (seven, limited, there, ending)

-- with one
pub judged_ended : (limit : ℕ) (xs : List ℕ) (kind : FrameKind) (n : ℕ)
    → 7 ≤ length xs → n ≡ size_of xs + 8 → n ≤ limit → n ≤ length xs → type_octet kind ≡ get_or xs 0 0 → get_or xs (n - 1) 0 ≡ END
    → (fault : FrameFaultKind) → judged limit xs ≡ Wrong fault → ⊥
judged_ended limit xs kind n long n_is within here type ended fault wrong =
    let seven : nat_lt (length xs) 7 ≡ false = grind (arith, nat_tests) in
    let limited : nat_lt limit (size_of xs + 8) ≡ false = grind (arith, nat_tests) in
    let there : nat_lt (length xs) (size_of xs + 8) ≡ false = grind (arith, nat_tests) in
    let place : n - 1 ≡ size_of xs + 7 = omega arith in
    let ending : (get_or xs (size_of xs + 7) 0 == END) ≡ true = eq-eqb _ _ (ap (λ k. get_or xs k 0) (sym place) ∙ ended) in
    let whole : judged limit xs ≡ Whole (frame_in kind xs) = sym (typed limit xs kind (omega arith) type) ∙ simp (seven, limited, there, ending) in
    let clash : Whole (frame_in kind xs) ≡ Wrong fault = sym whole ∙ wrong in
    cc

-- octets that are judged to begin with a frame read as that frame
pub judged_is_read : (limit : ℕ) (xs : List ℕ) (f : Frame) → Whole f ≡ judged limit xs → frame_read xs ≡ Some f
judged_is_read limit [] f e = absurd cc
judged_is_read limit (x ∷ xs) f e = by_type (kind_of_type x) e
  where
    by_end : (kind : FrameKind) (b : Bool) → Whole f ≡ cond b (Whole (frame_in kind (x ∷ xs))) (Wrong BadEnd) → frame_of_type (Some kind) (x ∷ xs) ≡ Some f
    by_end kind true e = cc
    by_end kind false e = absurd cc

    by_length : (kind : FrameKind) (b : Bool) → Whole f ≡ cond b Begun (judged_by_end kind (x ∷ xs)) → frame_of_type (Some kind) (x ∷ xs) ≡ Some f
    by_length kind true e = absurd cc
    by_length kind false e = by_end kind _ e

    by_limit : (kind : FrameKind) (b : Bool) → Whole f ≡ cond b (Wrong TooLarge) (cond (nat_lt (length (x ∷ xs)) (size_of (x ∷ xs) + 8)) Begun (judged_by_end kind (x ∷ xs))) → frame_of_type (Some kind) (x ∷ xs) ≡ Some f
    by_limit kind true e = absurd cc
    by_limit kind false e = by_length kind _ e

    by_seven : (kind : FrameKind) (b : Bool) → Whole f ≡ cond b Begun (judged_by_size limit kind (x ∷ xs)) → frame_of_type (Some kind) (x ∷ xs) ≡ Some f
    by_seven kind true e = absurd cc
    by_seven kind false e = by_limit kind _ e

    by_type : (kind : Option FrameKind) → Whole f ≡ judged_by_type limit kind (x ∷ xs) → frame_of_type kind (x ∷ xs) ≡ Some f
    by_type None e = absurd cc
    by_type (Some kind) e = by_seven kind _ e
