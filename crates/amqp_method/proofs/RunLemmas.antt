-- Runs of bits, where the octet begun has so many bits left.
use Rattle.std.proofs.Common.{◌≡◌, ◌≢◌, ℕ, zero, suc, ◌/◌, ◌%◌, ◌==◌, ◌<◌, List, [], ◌∷◌, ◌++◌, take, drop, Bool, refl, ap, ◌∙◌}
use Rattle.amqp_method.specs.Encoding.{EncodesArgument, HasLowBits, EncodesBits, Part, one, run, with_bit, EncodesParts}

-- a run of which the first bits are those left of an octet
abbrev pub HasBits : ℕ → ℕ → List Bool → List ℕ → Type 0
HasBits left packed bits octets = HasLowBits (take left bits) packed × EncodesBits (drop left bits) octets

-- parts, of which the run that comes first may go on in that octet
abbrev pub EncodesOn : ℕ → ℕ → List Part → List ℕ → Type 0
EncodesOn left packed [] octets = octets ≡ []
EncodesOn left packed (one value ∷ parts) octets =
    (first rest : List ℕ) × (octets ≡ first ++ rest) × EncodesArgument value first × EncodesParts parts rest
EncodesOn left packed (run bits ∷ parts) octets =
    (first rest : List ℕ) × (octets ≡ first ++ rest) × HasBits left packed bits first × EncodesParts parts rest

-- with no bit left they are parts
pub on_parts : (packed : ℕ) (parts : List Part) (octets : List ℕ) → EncodesParts parts octets → EncodesOn 0 packed parts octets
on_parts packed [] octets h = h
on_parts packed (one value ∷ parts) octets h = h
on_parts packed (run bits ∷ parts) octets h = (h.0, h.1, h.2, (tt, h.3), h.4)

pub off_parts : (packed : ℕ) (parts : List Part) (octets : List ℕ) → EncodesOn 0 packed parts octets → EncodesParts parts octets
off_parts packed [] octets h = h
off_parts packed (one value ∷ parts) octets h = h
off_parts packed (run bits ∷ parts) octets h = (h.0, h.1, h.2, h.3.1, h.4)

take-none : (n : ℕ) → take n (let none : List Bool = [] in none) ≡ []
take-none zero = refl
take-none (suc n) = refl

drop-none : (n : ℕ) → drop n (let none : List Bool = [] in none) ≡ []
drop-none zero = refl
drop-none (suc n) = refl

no_low_bits : (n x : ℕ) → HasLowBits (take n []) x
no_low_bits n x = rw (take-none n) tt

no_more_bits : (n : ℕ) → EncodesBits (drop n []) []
no_more_bits n = drop-none n

-- nothing but no octets encodes no bits
only_none : (bits : List Bool) (octets : List ℕ) → bits ≡ [] → EncodesBits bits octets → octets ≡ []
only_none bits [] none h = refl
only_none bits (x ∷ octets) none h = absurd (h.0 none)

-- ---- one bit more at the start, in the octet begun

pub on_bit : (left packed : ℕ) (parts : List Part) (octets : List ℕ) → EncodesOn left (packed / 2) parts octets → EncodesOn (suc left) packed (with_bit (packed % 2 == 1) parts) octets
on_bit left packed [] octets h = ([], [], h, ((refl, no_low_bits left (packed / 2)), no_more_bits left), refl)
on_bit left packed (one value ∷ parts) octets h = ([], octets, refl, ((refl, no_low_bits left (packed / 2)), no_more_bits left), h)
on_bit left packed (run bits ∷ parts) octets h = (h.0, h.1, h.2, ((refl, h.3.0), h.3.1), h.4)

pub off_bit : (left packed : ℕ) (holds : Bool) (parts : List Part) (octets : List ℕ) → EncodesOn (suc left) packed (with_bit holds parts) octets
    → ((packed % 2 == 1) ≡ holds) × EncodesOn left (packed / 2) parts octets
off_bit left packed holds [] octets h =
    let none : h.0 ≡ [] = only_none (drop left []) h.0 (drop-none left) h.3.1 in
    (h.3.0.0, h.2 ∙ rw (none, h.4) refl)
off_bit left packed holds (one value ∷ parts) octets h =
    let none : h.0 ≡ [] = only_none (drop left []) h.0 (drop-none left) h.3.1 in
    let same : octets ≡ h.1 = h.2 ∙ rw none refl in
    (h.3.0.0, rw same h.4)
off_bit left packed holds (run bits ∷ parts) octets h = (h.3.0.0, (h.0, h.1, h.2, (h.3.0.1, h.3.1), h.4))

-- ---- one bit more at the start, in a new octet

some_bits : (holds : Bool) (bits : List Bool) → holds ∷ bits ≢ []
some_bits holds bits = λ e. cc

pub on_octet : (packed x : ℕ) (parts : List Part) (octets : List ℕ) → x < 256 → EncodesOn 7 (x / 2) parts octets → EncodesOn 0 packed (with_bit (x % 2 == 1) parts) (x ∷ octets)
on_octet packed x [] octets fits h = (x ∷ [], [], ap (λ (o : List ℕ). x ∷ o) h, (tt, (some_bits _ [], fits, (refl, tt), refl)), refl)
on_octet packed x (one value ∷ parts) octets fits h = (x ∷ [], octets, refl, (tt, (some_bits _ [], fits, (refl, tt), refl)), h)
on_octet packed x (run bits ∷ parts) octets fits h = (x ∷ h.0, h.1, ap (λ (o : List ℕ). x ∷ o) h.2, (tt, (some_bits _ bits, fits, (refl, h.3.0), h.3.1)), h.4)

-- an octet whose low bits begin with this one, and the parts after that bit
pub record BeginsOctet (holds : Bool) (parts : List Part) (octets : List ℕ) : Type 0 where
  pub first : ℕ
  pub others : List ℕ
  pub octets_are : octets ≡ first ∷ others
  pub fits : first < 256
  pub bit_is : (first % 2 == 1) ≡ holds
  pub goes_on : EncodesOn 7 (first / 2) parts others

off_run : (holds : Bool) (bits : List Bool) (parts : List Part) (first rest : List ℕ) → EncodesBits (holds ∷ bits) first → EncodesParts parts rest → BeginsOctet holds (run bits ∷ parts) (first ++ rest)
off_run holds bits parts [] rest h p = absurd (some_bits holds bits h)
off_run holds bits parts (x ∷ first) rest h p = record {
  first = x;
  others = first ++ rest;
  octets_are = refl;
  fits = h.1;
  bit_is = h.2.0;
  goes_on = (first, rest, refl, (h.2.1, h.3), p);
}

off_last : (holds : Bool) (first : List ℕ) → EncodesBits (holds ∷ []) first → (x : ℕ) × (first ≡ x ∷ []) × (x < 256) × ((x % 2 == 1) ≡ holds)
off_last holds [] h = absurd (some_bits holds [] h)
off_last holds (x ∷ first) h = (x, ap (λ (o : List ℕ). x ∷ o) (only_none [] first refl h.3), h.1, h.2.0)

pub off_octet : (packed : ℕ) (holds : Bool) (parts : List Part) (octets : List ℕ) → EncodesOn 0 packed (with_bit holds parts) octets → BeginsOctet holds parts octets
off_octet packed holds [] octets h =
    let l = off_last holds h.0 h.3.1 in
    record { first = l.0; others = []; octets_are = h.2 ∙ ap (λ (o : List ℕ). o ++ h.1) l.1 ∙ ap (λ (o : List ℕ). l.0 ∷ o) h.4; fits = l.2; bit_is = l.3; goes_on = refl }
off_octet packed holds (one value ∷ parts) octets h =
    let l = off_last holds h.0 h.3.1 in
    record { first = l.0; others = h.1; octets_are = h.2 ∙ ap (λ (o : List ℕ). o ++ h.1) l.1; fits = l.2; bit_is = l.3; goes_on = h.4 }
off_octet packed holds (run bits ∷ parts) octets h = rw h.2 (off_run holds bits parts h.0 h.1 h.3.1 h.4)
