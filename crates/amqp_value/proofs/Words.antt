-- Octets that are copied in two words.
use Rattle.std.proofs.Common.{◌≡◌, ◌≤◌, ◌<◌, ◌-◌, ◌+◌, ◌*◌, ◌/◌, ◌%◌, ◌^◌, ◌∙◌, ℕ, zero, suc, List, ◌∷◌, ◌++◌, length, take, drop, refl, ap, sym, append_assoc, arith}
use Rattle.std.proofs.lemmas.List.{take-take, take-append-le, take_at, drop-take, drop-drop, length-take-le, length-drop}
use Rattle.std.proofs.lemmas.Nat.{pow-add, shl-shr, shr-shr, field_of}
use Rattle.std.proofs.Math.Pow.{mod-mod-pow}
use Rattle.std.proofs.Math.Nat.{div-one, pow-suc}
use Rattle.std.proofs.Math.Seq.{take-add}
use Rattle.std.specs.Int.{byte_at}
use Rattle.byteorder.specs.Endian.{big_number, big_bytes}
use Rattle.byteorder.specs.Numbers.{big_from-take}
use Rattle.amqp_value.proofs.Numbers.{IsBytes, IsBytes-take, IsBytes-drop, big_bytes-back}
use borrow.Rule.Slice.PartMut.{put_mid, post_of}

-- the octets of a word that was read are those that were read
word_back : (octets : List ℕ) (word : ℕ) → IsBytes octets → 8 ≤ length octets → word ≡ big_number 8 octets → big_bytes 8 word ≡ take 8 octets
word_back octets word fits long is =
    ap (big_bytes 8) (is ∙ sym (big_from-take 0 8 8 octets (omega arith))) ∙ big_bytes-back 8 (take 8 octets) (length-take-le 8 octets long) (IsBytes-take 8 octets fits)

-- two words stand in front of what is written last
in_words : (len : ℕ) (room part last others more : List ℕ) (first second : ℕ) → len ≤ 16 → room ≡ big_bytes 8 first ++ others → part ≡ big_bytes 8 second ++ more
    → take len (put_mid 16 8 (put_mid 8 16 room part) last) ≡ take len (big_bytes 8 first ++ big_bytes 8 second)
in_words len room part last others more first second few is_room is_part =
    let front = big_bytes 8 first in
    let back = big_bytes 8 second in
    let post = post_of 8 16 room in
    let one : take 8 room ≡ front = ap (take 8) is_room ∙ take_at front others 8 refl in
    let words : put_mid 8 16 room part ≡ (front ++ back) ++ (more ++ post) =
    ap (λ word. word ++ (part ++ post)) one
    ∙ ap (λ word. front ++ (word ++ post)) is_part
    ∙ ap (λ others. front ++ others) (append_assoc back more post)
    ∙ sym (append_assoc front back (more ++ post)) in
    let both : take 16 (put_mid 8 16 room part) ≡ front ++ back = ap (take 16) words ∙ take_at (front ++ back) (more ++ post) 16 refl in
    ap (λ front. take len (front ++ (last ++ post_of 16 8 (put_mid 8 16 room part)))) both
    ∙ take-append-le len (front ++ back) (last ++ post_of 16 8 (put_mid 8 16 room part)) few

-- sixteen octets, eight of them in the first word; what follows in the room is written last
pub few_in_words : (len : ℕ) (octets later room part last others more : List ℕ) (first second : ℕ) → IsBytes octets → len ≤ 16 → 16 ≤ length octets → later ≡ drop 8 octets
    → first ≡ big_number 8 octets → second ≡ big_number 8 later → room ≡ big_bytes 8 first ++ others → part ≡ big_bytes 8 second ++ more
    → take len (put_mid 16 8 (put_mid 8 16 room part) last) ≡ take len octets
few_in_words len octets later room part last others more first second fits few long is_later is_first is_second is_room is_part =
    let one : big_bytes 8 first ≡ take 8 octets = word_back octets first fits (omega arith) is_first in
    let two : big_bytes 8 second ≡ take 8 (drop 8 octets) = word_back (drop 8 octets) second (IsBytes-drop 8 octets fits) (omega (arith, length-drop 8 octets)) (is_second ∙ ap (big_number 8) is_later) in
    let words : big_bytes 8 first ++ big_bytes 8 second ≡ take 16 octets =
    ap (λ word. word ++ big_bytes 8 second) one ∙ ap (λ word. take 8 octets ++ word) two ∙ sym (take-add 8 8 octets) in
    in_words len room part last others more first second few is_room is_part ∙ ap (take len) words ∙ take-take len 16 octets few

-- ---- a word that is shifted

pow_octets : (k : ℕ) → 256 ^ k ≡ 2 ^ (8 * k)
pow_octets zero = refl
pow_octets (suc k) = pow-suc 256 k ∙ ap (λ x. x * 256) (pow_octets k) ∙ sym (pow-add 2 (8 * k) 8) ∙ ap (λ n. 2 ^ n) (omega arith)

byte_at_place : (k x : ℕ) → byte_at k x ≡ x / 2 ^ (8 * k) % 2 ^ 8
byte_at_place zero x = ap (λ y. y % 256) (sym (div-one x))
byte_at_place (suc k) x = ap (λ place. x / place % 256) (pow_octets (suc k))

-- an octet of a number that was shifted by k octets, of those that stay in w bits
byte_at-shifted : (j m k w x : ℕ) → j ≡ m + k → 8 * suc j ≤ w → byte_at j (x * 2 ^ (8 * k) % 2 ^ w) ≡ byte_at m x
byte_at-shifted j m k w x is fits =
    let above = w - 8 * suc j in
    let place = 8 * k + 8 * m in
    let shifted = x * 2 ^ (8 * k) in
    let wide : w ≡ (above + 8) + place = omega arith in
    let same : 8 * j ≡ place = omega arith in
    let back : shifted / 2 ^ place ≡ x / 2 ^ (8 * m) = sym (shr-shr shifted (8 * k) (8 * m)) ∙ ap (λ y. y / 2 ^ (8 * m)) (shl-shr x (8 * k)) in
    byte_at_place j (shifted % 2 ^ w)
    ∙ ap (λ bits. shifted % 2 ^ bits / 2 ^ (8 * j) % 2 ^ 8) wide
    ∙ ap (λ place. shifted % 2 ^ ((above + 8) + (8 * k + 8 * m)) / 2 ^ place % 2 ^ 8) same
    ∙ ap (λ y. y % 2 ^ 8) (field_of shifted (above + 8) place ∙ ap (λ y. y % 2 ^ (above + 8)) back)
    ∙ mod-mod-pow (x / 2 ^ (8 * m)) above 8
    ∙ sym (byte_at_place m x)

-- the first m octets of a number that was shifted by k octets
shifted-octets : (m k n w x : ℕ) → n ≡ m + k → 8 * n ≤ w → take m (big_bytes n (x * 2 ^ (8 * k) % 2 ^ w)) ≡ big_bytes m x
shifted-octets zero k n w x is fits = refl
shifted-octets (suc m) k zero w x is fits = absurd (omega arith)
shifted-octets (suc m) k (suc n) w x is fits =
    ap (λ octet. octet ∷ take m (big_bytes n (x * 2 ^ (8 * k) % 2 ^ w))) (byte_at-shifted n m k w x (omega arith) fits)
    ∙ ap (λ octets. byte_at m x ∷ octets) (shifted-octets m k n w x (omega arith) (omega arith))

-- the last m octets of a number
last-octets : (k m n x : ℕ) → n ≡ k + m → drop k (big_bytes n x) ≡ big_bytes m x
last-octets zero m n x is = ap (λ n. big_bytes n x) (omega arith)
last-octets (suc k) m zero x is = absurd (omega arith)
last-octets (suc k) m (suc n) x is = last-octets k m n x (omega arith)

-- more than eight octets: the second word ends with the last of them, and is shifted to begin after the first word
pub few_to_end : (len : ℕ) (octets later room part last others more : List ℕ) (first word second : ℕ) → IsBytes octets → 8 < len → len ≤ 16 → len ≤ length octets → later ≡ drop (len - 8) octets
    → first ≡ big_number 8 octets → word ≡ big_number 8 later → second ≡ word * 2 ^ (8 * (16 - len)) % 2 ^ 64 → room ≡ big_bytes 8 first ++ others → part ≡ big_bytes 8 second ++ more
    → take len (put_mid 16 8 (put_mid 8 16 room part) last) ≡ take len octets
few_to_end len octets later room part last others more first word second fits long few within is_later is_first is_word is_second is_room is_part =
    let m = len - 8 in
    let k = 16 - len in
    let ends : 8 ≡ k + m = omega arith in
    let starts : m + k ≡ 8 = omega arith in
    let all : len ≡ 8 + m = omega arith in
    let one : big_bytes 8 first ≡ take 8 octets = word_back octets first fits (omega arith) is_first in
    let read : big_bytes 8 word ≡ take 8 (drop m octets) =
    word_back (drop m octets) word (IsBytes-drop m octets fits) (omega (arith, length-drop m octets)) (is_word ∙ ap (big_number 8) is_later) in
    let two : take m (big_bytes 8 second) ≡ take m (drop 8 octets) =
    ap (λ x. take m (big_bytes 8 x)) is_second
    ∙ shifted-octets m k 8 64 word (omega arith) (omega arith)
    ∙ sym (last-octets k m 8 word ends)
    ∙ ap (drop k) read
    ∙ ap (λ n. drop k (take n (drop m octets))) ends
    ∙ drop-take k m (drop m octets)
    ∙ ap (take m) (drop-drop k m octets)
    ∙ ap (λ n. take m (drop n octets)) starts in
    let words : take len (big_bytes 8 first ++ big_bytes 8 second) ≡ take len octets =
    ap (λ n. take n (big_bytes 8 first ++ big_bytes 8 second)) all
    ∙ take-add 8 m (big_bytes 8 first ++ big_bytes 8 second)
    ∙ ap (λ front. front ++ take m (big_bytes 8 second)) one
    ∙ ap (λ back. take 8 octets ++ back) two
    ∙ sym (take-add 8 m octets)
    ∙ ap (λ n. take n octets) (sym all) in
    in_words len room part last others more first second few is_room is_part ∙ words
