-- The octets of a number are one list, and one list of octets is one number.
use Rattle.std.proofs.Common.{◌≡◌, ℕ, zero, suc, ◌+◌, ◌*◌, ◌^◌, ◌<◌, List, [], ◌∷◌, ◌++◌, length, get_or, take, drop}
use Rattle.std.proofs.Common.{refl, sym, ap, ◌∙◌, arith, inl, inr, length-take, ℤ}
use mir.Val.{bits}
use Rattle.std.specs.Int.{Width, byte_len, byte_at, cast_signed, cast_unsigned}
use Rattle.std.proofs.Math.Nat.{mod-lt, mod-eq_of_lt}
use Rattle.std.proofs.Math.Facts.{sfits_to_z, Fits-of_z}
use Rattle.std.proofs.lemmas.Bool.{cases_lt}
use Rattle.std.proofs.lemmas.Int.{of_z-to_z, to_z-of_z}
use Rattle.std.proofs.lemmas.List.{append-nil, get_or-drop, get_or-take, get_or_past}
use Rattle.std.proofs.lemmas.Nat.{same_from_place}
use Rattle.byteorder.specs.Endian.{big_from, big_number, big_bytes}
use Rattle.byteorder.specs.Numbers.{big_from-cons, big_from-lt, big_number-reads_back, length-bytes_high_first}
use Rattle.amqp_value.specs.Fields.{EncodesNumber, EncodesSigned}

abbrev pub IsBytes : List ℕ → Type 0
IsBytes octets = (i : ℕ) → get_or octets i 0 < 256

pub IsBytes-drop : (n : ℕ) (octets : List ℕ) → IsBytes octets → IsBytes (drop n octets)
IsBytes-drop n octets h i = rw get_or-drop (h (n + i))

pub IsBytes-take : (n : ℕ) (octets : List ℕ) → IsBytes octets → IsBytes (take n octets)
IsBytes-take n octets h i =
    elim (cases_lt i n) [
      | inl lt ↦ rw (get_or-take n octets i 0 lt) (h i)
      | inr le ↦ rw (get_or_past {X = ℕ} (take n octets) i 0 (omega (arith, length-take n octets))) (omega arith)
    ]

pub IsBytes-rest : (octet : ℕ) (octets : List ℕ) → IsBytes (octet ∷ octets) → IsBytes octets
IsBytes-rest octet octets h i = h (suc i)

byte_at-lt : (k x : ℕ) → byte_at k x < 256
byte_at-lt zero x = mod-lt x (omega arith)
byte_at-lt (suc k) x = mod-lt _ (omega arith)

IsBytes-big_bytes : (n x : ℕ) → IsBytes (big_bytes n x)
IsBytes-big_bytes zero x i = omega (arith, get_or_past {X = ℕ} [] i 0 (omega arith))
IsBytes-big_bytes (suc n) x zero = byte_at-lt n x
IsBytes-big_bytes (suc n) x (suc i) = IsBytes-big_bytes n x i

same_number : (n : ℕ) (xs ys : List ℕ) → IsBytes xs → IsBytes ys → length xs ≡ n → length ys ≡ n → big_from 0 n xs ≡ big_from 0 n ys → xs ≡ ys
same_number zero [] [] p q l m e = refl
same_number zero [] (y ∷ ys) p q l m e = absurd (omega arith)
same_number zero (x ∷ xs) ys p q l m e = absurd (omega arith)
same_number (suc n) [] ys p q l m e = absurd (omega arith)
same_number (suc n) (x ∷ xs) [] p q l m e = absurd (omega arith)
same_number (suc n) (x ∷ xs) (y ∷ ys) p q l m e =
    let below_x = big_from-lt 0 n xs (IsBytes-rest x xs p) in
    let below_y = big_from-lt 0 n ys (IsBytes-rest y ys q) in
    let lowered : x * 256 ^ n + big_from 0 n xs ≡ y * 256 ^ n + big_from 0 n ys = rw (big_from-cons 0 n x xs, big_from-cons 0 n y ys) at e in
    let same = same_from_place x (big_from 0 n xs) y (big_from 0 n ys) (256 ^ n) below_x below_y lowered in
    rw (same.0, same_number n xs ys (IsBytes-rest x xs p) (IsBytes-rest y ys q) (omega arith) (omega arith) same.1) refl

reads_own : (n x : ℕ) → x < 256 ^ n → big_from 0 n (big_bytes n x) ≡ x
reads_own n x h = ap (big_from 0 n) (sym (append-nil (big_bytes n x))) ∙ big_number-reads_back n x [] h

-- the octets of the number that n octets are
pub big_bytes-back : (n : ℕ) (octets : List ℕ) → length octets ≡ n → IsBytes octets → big_bytes n (big_number n octets) ≡ octets
big_bytes-back n octets len fits =
    let x = big_number n octets in
    same_number n (big_bytes n x) octets (IsBytes-big_bytes n x) fits (length-bytes_high_first n x) len (reads_own n x (big_from-lt 0 n octets fits))

-- ---- n octets encode the number that they are

pub number_encoded : (n : ℕ) (octets : List ℕ) → length octets ≡ n → IsBytes octets → EncodesNumber n (big_number n octets) octets
number_encoded n octets len fits = record { fits = big_from-lt 0 n octets fits; octets_are = sym (big_bytes-back n octets len fits) }

pub octet_encoded : (octets : List ℕ) → length octets ≡ 1 → IsBytes octets → EncodesNumber 1 (get_or octets 0 0) octets
octet_encoded [] len fits = absurd (omega arith)
octet_encoded (x ∷ []) len fits = let below : x < 256 = fits 0 in record { fits = fits 0; octets_are = ap (λ y. y ∷ []) (sym (mod-eq_of_lt below)) }
octet_encoded (x ∷ y ∷ octets) len fits = absurd (omega arith)

pub signed_encoded : (w : Width) (number : ℕ) (octets : List ℕ) → number < 2 ^ bits w → EncodesNumber (byte_len w) number octets → EncodesSigned w (cast_signed w number) octets
signed_encoded w number octets below encoded =
    record { fits = sfits_to_z (record { fits = below }); octets_are = encoded.octets_are ∙ ap (big_bytes (byte_len w)) (sym (of_z-to_z w number below)) }

-- ---- and no other

pub number_read : (n number : ℕ) (octets rest : List ℕ) → EncodesNumber n number octets → big_number n (octets ++ rest) ≡ number
number_read n number octets rest encoded = ap (λ o. big_number n (o ++ rest)) encoded.octets_are ∙ big_number-reads_back n number rest encoded.fits

pub number_read_whole : (n number : ℕ) (octets : List ℕ) → EncodesNumber n number octets → big_number n octets ≡ number
number_read_whole n number octets encoded = ap (big_number n) encoded.octets_are ∙ reads_own n number encoded.fits

pub number_length : (n number : ℕ) (octets : List ℕ) → EncodesNumber n number octets → length octets ≡ n
number_length n number octets encoded = ap length encoded.octets_are ∙ length-bytes_high_first n number

pub signed_read : (w : Width) (number : ℤ) (octets : List ℕ) → 256 ^ byte_len w ≡ 2 ^ bits w → EncodesSigned w number octets
    → (length octets ≡ byte_len w) × (cast_signed w (big_number (byte_len w) octets) ≡ number)
signed_read w number octets wide encoded =
    let below : cast_unsigned w number < 2 ^ bits w = (Fits-of_z encoded.fits).fits in
    let unsigned : EncodesNumber (byte_len w) (cast_unsigned w number) octets = record { fits = rw wide below; octets_are = encoded.octets_are } in
    (number_length (byte_len w) _ octets unsigned, ap (cast_signed w) (number_read_whole (byte_len w) _ octets unsigned) ∙ to_z-of_z w number encoded.fits)
