-- Octets with a known type, a size and an end octet are a frame.
use Rattle.std.proofs.Common.{◌≡◌, ℕ, zero, suc, ◌+◌, ◌-◌, ◌<◌, ◌≤◌, List, [], ◌∷◌, ◌++◌, length, take, drop, get_or, refl, sym, ap, ◌∙◌, arith, take-add, length-drop}
use Rattle.std.proofs.lemmas.List.{take_more, length-take-le, get_or-drop}
use Rattle.std.proofs.lemmas.Nat.{be_bytes_2, be_bytes_4}
use Rattle.byteorder.specs.Endian.{big_bytes, big_number}
use Rattle.byteorder.specs.Numbers.{big_from-lt}
use Rattle.amqp_frame.specs.Frame.{Frame, octets, Fits, END, type_octet, frame_length}
use Rattle.amqp_frame.specs.Splitting.{size_of}

-- each of them is an octet
abbrev pub AreOctets : List ℕ → Type 0
AreOctets xs = (i : ℕ) → get_or xs i 0 < 256

AreOctets-drop : (n : ℕ) (xs : List ℕ) → AreOctets xs → AreOctets (drop n xs)
AreOctets-drop n xs are i = rw (get_or-drop n xs i 0) (are (n + i))

get_or_take_lt : (n : ℕ) (xs : List ℕ) (i : ℕ) → get_or xs i 0 < 256 → get_or (take n xs) i 0 < 256
get_or_take_lt zero xs i small = omega arith
get_or_take_lt (suc n) [] i small = small
get_or_take_lt (suc n) (x ∷ xs) zero small = small
get_or_take_lt (suc n) (x ∷ xs) (suc i) small = get_or_take_lt n xs i small

-- octets apart from what is after them
prefix_octets : (n : ℕ) (xs : List ℕ) → AreOctets xs → AreOctets (take n xs)
prefix_octets n xs are i = get_or_take_lt n xs i (are i)

-- a number of two octets, written again
big_bytes_2 : (ys : List ℕ) → AreOctets ys → 2 ≤ length ys → big_bytes 2 (big_number 2 ys) ≡ take 2 ys
big_bytes_2 [] are long = absurd (omega arith)
big_bytes_2 (a ∷ []) are long = absurd (omega arith)
big_bytes_2 (a ∷ b ∷ ys) are long =
    be_bytes_2 (a ∷ b ∷ []) (big_number 2 (a ∷ b ∷ ys)) refl (prefix_octets 2 (a ∷ b ∷ ys) are) (omega arith)

-- a number of four octets, written again
big_bytes_4 : (ys : List ℕ) → AreOctets ys → 4 ≤ length ys → big_bytes 4 (big_number 4 ys) ≡ take 4 ys
big_bytes_4 [] are long = absurd (omega arith)
big_bytes_4 (a ∷ []) are long = absurd (omega arith)
big_bytes_4 (a ∷ b ∷ []) are long = absurd (omega arith)
big_bytes_4 (a ∷ b ∷ c ∷ []) are long = absurd (omega arith)
big_bytes_4 (a ∷ b ∷ c ∷ d ∷ ys) are long =
    be_bytes_4 (a ∷ b ∷ c ∷ d ∷ []) (big_number 4 (a ∷ b ∷ c ∷ d ∷ ys)) refl (prefix_octets 4 (a ∷ b ∷ c ∷ d ∷ ys) are) (omega arith)

-- the seven octets before a payload
header_octets : (xs : List ℕ) → AreOctets xs → 7 ≤ length xs → take 7 xs ≡ get_or xs 0 0 ∷ (big_bytes 2 (big_number 2 (drop 1 xs)) ++ big_bytes 4 (size_of xs))
header_octets [] are long = absurd (omega arith)
header_octets (x ∷ xs) are long =
    let channel = big_bytes_2 xs (λ i. are (suc i)) (omega arith) in
    let size = big_bytes_4 (drop 2 xs) (AreOctets-drop 2 xs (λ i. are (suc i))) (simp length-drop (omega arith)) in
    let parts : take 2 xs ++ take 4 (drop 2 xs) ≡ big_bytes 2 (big_number 2 xs) ++ big_bytes 4 (big_number 4 (drop 2 xs)) = rw (← channel, ← size) refl in
    ap (λ (ys : List ℕ). x ∷ ys) (take-add 2 4 xs ∙ parts)

-- Octets that are long enough, with the type octet of a kind at the start and the end octet in its place, begin with a frame.
pub judged_whole : (limit : ℕ) (xs : List ℕ) (f : Frame) (n : ℕ)
    → AreOctets xs → 7 ≤ length xs → n ≡ size_of xs + 8 → n ≤ limit → n ≤ length xs
    → type_octet f.kind ≡ get_or xs 0 0 → f.channel ≡ big_number 2 (drop 1 xs) → f.payload ≡ take (n - 1 - 7) (drop 7 xs) → get_or xs (n - 1) 0 ≡ END
    → (frame_length f ≤ length xs) × (frame_length f ≤ limit) × Fits f × (take (frame_length f) xs ≡ octets f)
unfolding octets
judged_whole limit xs f n are long n_is limited within kind channel payload end =
    let short : n - 1 - 7 ≤ length (drop 7 xs) = simp length-drop (omega arith) in
    let payload_length : length f.payload ≡ n - 1 - 7 = rw payload (length-take-le (n - 1 - 7) (drop 7 xs) short) in
    let size : length f.payload ≡ size_of xs = omega arith in
    let header : take 7 xs ≡ type_octet f.kind ∷ (big_bytes 2 f.channel ++ big_bytes 4 (length f.payload)) = rw (kind, channel, size) (header_octets xs are long) in
    let here : length f.payload < length (drop 7 xs) = simp length-drop (omega arith) in
    let body : take (length f.payload) (drop 7 xs) ≡ f.payload = rw payload_length (sym payload) in
    let place : 7 + length f.payload ≡ n - 1 = omega arith in
    let ending : get_or (drop 7 xs) (length f.payload) 0 ≡ END = get_or-drop 7 xs (length f.payload) 0 ∙ ap (λ (k : ℕ). get_or xs k 0) place ∙ end in
    let last : take (length f.payload + 1) (drop 7 xs) ≡ f.payload ++ END ∷ [] = take_more (drop 7 xs) (length f.payload) 0 here ∙ rw (body, ending) refl in
    let parts : length f.payload + 8 ≡ 7 + (length f.payload + 1) = omega arith in
    let channel_fits = big_from-lt 0 2 (drop 1 xs) (AreOctets-drop 1 xs are) in
    let size_fits = big_from-lt 0 4 (drop 3 xs) (AreOctets-drop 3 xs are) in (
      omega arith,
      omega arith,
      record { channel = omega arith; size = omega arith },
      ap (λ (k : ℕ). take k xs) parts ∙ take-add 7 (length f.payload + 1) xs ∙ rw (header, last) refl,
    )
