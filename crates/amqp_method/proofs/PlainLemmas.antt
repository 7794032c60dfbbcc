-- What is written value by value is the plain encoding, and the plain encoding is an encoding.
use Rattle.std.proofs.Common.{◌≡◌, ◌≢◌, ℕ, zero, suc, ◌+◌, ◌*◌, ◌/◌, ◌%◌, ◌^◌, ◌==◌, ◌<◌, ◌≤◌, cond, List, [], ◌∷◌, ◌++◌, length, take, drop, Bool, true, false, refl, sym, ap, ◌∙◌, append_assoc, arith, length-take, length-drop}
use Rattle.std.proofs.lemmas.Bool.{eqb-true, ne_eqb}
use Rattle.std.proofs.lemmas.List.{append-nil}
use Rattle.std.proofs.lemmas.Nat.{pow-add}
use Rattle.std.proofs.Math.Nat.{pow-le-pow_right}
use Rattle.amqp_method.specs.Arguments.{Argument, bit, octet, short, long, long_long, short_string, long_string, table}
use Rattle.amqp_method.specs.Plain.{plain_argument, bit_value, packed, in_octets, plain_bits, plain_parts, plain_values}
use Rattle.amqp_method.specs.Encoding.{EncodesArgument, HasLowBits, EncodesBits, Part, one, run, with_bit, parts_of, EncodesParts, EncodesValues}
use Rattle.amqp_method.specs.Writing.{Gathered, none_gathered, gathered_octets, written_for, gathered_after, written_values, AllFitting}

-- ---- the plain encoding of bits encodes them

low_bit : (holds : Bool) (x : ℕ) → ((bit_value holds + 2 * x) % 2 == 1) ≡ holds
low_bit false x = let e : (0 + 2 * x) % 2 ≡ 0 = omega arith in rw e refl
low_bit true x = let e : (1 + 2 * x) % 2 ≡ 1 = omega arith in rw e refl

other_bits : (holds : Bool) (x : ℕ) → (bit_value holds + 2 * x) / 2 ≡ x
other_bits false x = omega arith
other_bits true x = omega arith

packed-has : (bits : List Bool) → HasLowBits bits (packed bits)
packed-has [] = tt
packed-has (holds ∷ bits) = (low_bit holds (packed bits), rw (other_bits holds (packed bits)) (packed-has bits))

bit_value-lt : (holds : Bool) → bit_value holds < 2
bit_value-lt false = omega arith
bit_value-lt true = omega arith

packed-lt : (bits : List Bool) → packed bits < 2 ^ length bits
packed-lt [] = omega arith
packed-lt (holds ∷ bits) =
    let h = packed-lt bits in
    let b = bit_value-lt holds in
    let e : suc (length bits) ≡ 1 + length bits = omega arith in
    let up : 2 ^ suc (length bits) ≡ 2 * 2 ^ length bits = rw e (pow-add 2 1 (length bits)) in
    omega arith

packed_octet-lt : (bits : List Bool) → length bits ≤ 8 → packed bits < 256
packed_octet-lt bits h =
    let lt = packed-lt bits in
    let le : 2 ^ length bits ≤ 2 ^ 8 = pow-le-pow_right {n = 2} (omega arith) h in
    omega arith

some_bits : (bits : List Bool) → 0 < length bits → bits ≢ []
some_bits [] h = λ _. absurd (omega arith)
some_bits (holds ∷ bits) h = λ e. cc

in_octets-encode : (n : ℕ) (bits : List Bool) → n ≡ (length bits + 7) / 8 → EncodesBits bits (in_octets n bits)
in_octets-encode zero [] e = refl
in_octets-encode zero (holds ∷ bits) e = absurd (omega arith)
in_octets-encode (suc n) bits e =
    let some : 0 < length bits = omega arith in
    let short : length (take 8 bits) ≤ 8 = omega (arith, length-take 8 bits) in
    let others : n ≡ (length (drop 8 bits) + 7) / 8 = omega (arith, length-drop 8 bits) in
    (some_bits bits some, packed_octet-lt (take 8 bits) short, packed-has (take 8 bits), in_octets-encode n (drop 8 bits) others)

plain_bits-encode : (bits : List Bool) → EncodesBits bits (plain_bits bits)
plain_bits-encode bits = in_octets-encode ((length bits + 7) / 8) bits refl

-- ---- the plain encoding of values encodes them

-- each value that stands alone fits its field
abbrev PartsFit : List Part → Type 0
PartsFit [] = Unit {0}
PartsFit (one value ∷ parts) = EncodesArgument value (plain_argument value) × PartsFit parts
PartsFit (run bits ∷ parts) = PartsFit parts

plain_parts-encode : (parts : List Part) → PartsFit parts → EncodesParts parts (plain_parts parts)
plain_parts-encode [] h = refl
plain_parts-encode (one value ∷ parts) h = (plain_argument value, plain_parts parts, refl, h.0, plain_parts-encode parts h.1)
plain_parts-encode (run bits ∷ parts) h = (plain_bits bits, plain_parts parts, refl, plain_bits-encode bits, plain_parts-encode parts h)

with_bit-fits : (holds : Bool) (parts : List Part) → PartsFit parts → PartsFit (with_bit holds parts)
with_bit-fits holds [] h = tt
with_bit-fits holds (one value ∷ parts) h = h
with_bit-fits holds (run bits ∷ parts) h = h

parts_of-fit : (values : List Argument) → AllFitting values → PartsFit (parts_of values)
parts_of-fit [] h = tt
parts_of-fit (bit holds ∷ values) h = with_bit-fits holds (parts_of values) (parts_of-fit values h.1)
parts_of-fit (octet n ∷ values) h = (h.0, parts_of-fit values h.1)
parts_of-fit (short n ∷ values) h = (h.0, parts_of-fit values h.1)
parts_of-fit (long n ∷ values) h = (h.0, parts_of-fit values h.1)
parts_of-fit (long_long n ∷ values) h = (h.0, parts_of-fit values h.1)
parts_of-fit (short_string t ∷ values) h = (h.0, parts_of-fit values h.1)
parts_of-fit (long_string t ∷ values) h = (h.0, parts_of-fit values h.1)
parts_of-fit (table p ∷ values) h = (h.0, parts_of-fit values h.1)

pub plain_values-encode : (values : List Argument) → AllFitting values → EncodesValues values (plain_values values)
plain_values-encode values h = plain_parts-encode (parts_of values) (parts_of-fit values h)

-- ---- what is written value by value is the plain encoding

-- the bits that parts begin with, and the parts after them
abbrev head_bits : List Part → List Bool
head_bits [] = []
head_bits (one value ∷ parts) = []
head_bits (run bits ∷ parts) = bits

abbrev after_head : List Part → List Part
after_head [] = []
after_head (one value ∷ parts) = one value ∷ parts
after_head (run bits ∷ parts) = parts

head_with_bit : (holds : Bool) (parts : List Part) → head_bits (with_bit holds parts) ≡ holds ∷ head_bits parts
head_with_bit holds [] = refl
head_with_bit holds (one value ∷ parts) = refl
head_with_bit holds (run bits ∷ parts) = refl

after_with_bit : (holds : Bool) (parts : List Part) → after_head (with_bit holds parts) ≡ after_head parts
after_with_bit holds [] = refl
after_with_bit holds (one value ∷ parts) = refl
after_with_bit holds (run bits ∷ parts) = refl

head_joined : (parts : List Part) → plain_bits (head_bits parts) ++ plain_parts (after_head parts) ≡ plain_parts parts
head_joined [] = refl
head_joined (one value ∷ parts) = refl
head_joined (run bits ∷ parts) = refl

-- bits after some that were gathered, so many of which go into the same octet
abbrev run_on : ℕ → Gathered → List Bool → List ℕ
run_on left g bits = cond (g.count == 0) (plain_bits bits) ((g.number + 2 ^ g.count * packed (take left bits)) ∷ plain_bits (drop left bits))

take-none : (n : ℕ) → take n (let none : List Bool = [] in none) ≡ []
take-none zero = refl
take-none (suc n) = refl

drop-none : (n : ℕ) → drop n (let none : List Bool = [] in none) ≡ []
drop-none zero = refl
drop-none (suc n) = refl

run_on-none : (left : ℕ) (g : Gathered) → run_on left g [] ≡ gathered_octets g
run_on-none left g = rw (take-none left, drop-none left) (by (g.count == 0)) where
  by : (b : Bool) → cond b (plain_bits []) ((g.number + 2 ^ g.count * packed []) ∷ plain_bits []) ≡ cond b [] (g.number ∷ [])
  by true = refl
  by false = let e : g.number + 2 ^ g.count * 0 ≡ g.number = omega arith in ap (λ (x : ℕ). x ∷ []) e

-- the first eight of the bits are an octet
octet_first : (holds : Bool) (bits : List Bool) → plain_bits (holds ∷ bits) ≡ (bit_value holds + 2 * packed (take 7 bits)) ∷ plain_bits (drop 7 bits)
octet_first holds bits =
    let n : (suc (length bits) + 7) / 8 ≡ suc ((length (drop 7 bits) + 7) / 8) = omega (arith, length-drop 7 bits) in
    ap (λ (m : ℕ). in_octets m (holds ∷ bits)) n

one_more : (number p b x : ℕ) → number + p * (b + 2 * x) ≡ (number + b * p) + (2 * p) * x
one_more number p b x = omega arith

two_octets : (number : ℕ) (holds : Bool) (bits : List Bool)
    → number ∷ ((0 + bit_value holds * 1) + 2 * packed (take 7 bits)) ∷ plain_bits (drop 7 bits) ≡ (number + 256 * 0) ∷ plain_bits (holds ∷ bits)
two_octets number holds bits =
    let a : number + 256 * 0 ≡ number = omega arith in
    let b : (0 + bit_value holds * 1) + 2 * packed (take 7 bits) ≡ bit_value holds + 2 * packed (take 7 bits) = omega arith in
    rw (a, b, octet_first holds bits) refl

below_one : (holds : Bool) (number count : ℕ) → number < 2 ^ count → number + bit_value holds * 2 ^ count < 2 ^ (count + 1)
below_one false number count h = let up = pow-add 2 count 1 in omega arith
below_one true number count h = let up = pow-add 2 count 1 in omega arith

-- a value that stands alone ends the run
written_alone : (prefix : List ℕ) (values : List Argument) (left : ℕ) (g : Gathered) → written_values values none_gathered ≡ plain_bits (head_bits (parts_of values)) ++ plain_parts (after_head (parts_of values))
    → (gathered_octets g ++ prefix) ++ written_values values none_gathered ≡ run_on left g [] ++ (prefix ++ plain_parts (parts_of values))
written_alone prefix values left g inside =
    rw (run_on-none left g) (append_assoc (gathered_octets g) prefix (written_values values none_gathered)
    ∙ ap (λ (o : List ℕ). gathered_octets g ++ (prefix ++ o)) (inside ∙ head_joined (parts_of values)))

-- one bit more, in the octet begun or in a new one
bit_on : (holds : Bool) (left : ℕ) (g : Gathered) (bits : List Bool) → left + g.count ≡ 8 → g.number < 2 ^ g.count
    → (next : ℕ) × (next + (gathered_after (bit holds) g).count ≡ 8) × ((gathered_after (bit holds) g).number < 2 ^ (gathered_after (bit holds) g).count)
    × (written_for (bit holds) g ++ run_on next (gathered_after (bit holds) g) bits ≡ run_on left g (holds ∷ bits))
bit_on holds zero g bits sum below =
    let full : g.count ≡ 8 = omega arith in
    let b = bit_value-lt holds in
    (7, rw full refl, rw full (omega arith), rw full (two_octets g.number holds bits))
bit_on holds (suc left) g bits sum below = begun (g.count == 0) refl
  where
    not_full : (g.count == 8) ≡ false
    not_full = ne_eqb g.count 8 (λ e. absurd (omega arith))

    more : (g.count + 1 == 0) ≡ false
    more = ne_eqb (g.count + 1) 0 (λ e. absurd (omega arith))

    up : 2 ^ (g.count + 1) ≡ 2 ^ g.count * 2
    up = pow-add 2 g.count 1

    begun : (c : Bool) → (g.count == 0) ≡ c
        → (next : ℕ) × (next + (gathered_after (bit holds) g).count ≡ 8) × ((gathered_after (bit holds) g).number < 2 ^ (gathered_after (bit holds) g).count)
        × (written_for (bit holds) g ++ run_on next (gathered_after (bit holds) g) bits ≡ run_on (suc left) g (holds ∷ bits))
    begun true e = (left, rw not_full (omega arith), rw not_full (below_one holds g.number g.count below), rw (not_full, more, e) (new_octet e))
      where
        new_octet : (g.count == 0) ≡ true → ((g.number + bit_value holds * 2 ^ g.count) + 2 ^ (g.count + 1) * packed (take left bits)) ∷ plain_bits (drop left bits) ≡ plain_bits (holds ∷ bits)
        new_octet t =
            let none : g.count ≡ 0 = eqb-true g.count 0 t in
            let seven : left ≡ 7 = omega arith in
            let nothing : g.number < 1 = rw none at below in
            let first : (g.number + bit_value holds * 2 ^ g.count) + 2 ^ (g.count + 1) * packed (take left bits) ≡ bit_value holds + 2 * packed (take 7 bits) =
            rw (none, seven) (omega arith) in
            rw (first, seven) (sym (octet_first holds bits))
    begun false e = (left, rw not_full (omega arith), rw not_full (below_one holds g.number g.count below), rw (not_full, more, e) (same_octet))
      where
        same_octet : ((g.number + bit_value holds * 2 ^ g.count) + 2 ^ (g.count + 1) * packed (take left bits)) ∷ plain_bits (drop left bits)
            ≡ (g.number + 2 ^ g.count * (bit_value holds + 2 * packed (take left bits))) ∷ plain_bits (drop left bits)
        same_octet =
            let e1 = one_more g.number (2 ^ g.count) (bit_value holds) (packed (take left bits)) in
            let e2 : 2 ^ (g.count + 1) ≡ 2 * 2 ^ g.count = up ∙ omega arith in
            rw (e2, e1) refl

written_on : (values : List Argument) (left : ℕ) (g : Gathered) → left + g.count ≡ 8 → g.number < 2 ^ g.count
    → written_values values g ≡ run_on left g (head_bits (parts_of values)) ++ plain_parts (after_head (parts_of values))
unfolding written_values
written_on [] left g sum below = rw (run_on-none left g) (sym (append-nil (gathered_octets g)))
written_on (bit holds ∷ values) left g sum below =
    let b = bit_on holds left g (head_bits (parts_of values)) sum below in
    let inside = written_on values b.0 (gathered_after (bit holds) g) b.1 b.2 in
    let parts = parts_of values in
    rw (head_with_bit holds parts, after_with_bit holds parts)
    (ap (λ (o : List ℕ). written_for (bit holds) g ++ o) inside
    ∙ sym (append_assoc (written_for (bit holds) g) (run_on b.0 (gathered_after (bit holds) g) (head_bits parts)) (plain_parts (after_head parts)))
    ∙ ap (λ (o : List ℕ). o ++ plain_parts (after_head parts)) b.3)
written_on (octet n ∷ values) left g sum below = written_alone (plain_argument (octet n)) values left g (written_on values 8 none_gathered refl (omega arith))
written_on (short n ∷ values) left g sum below = written_alone (plain_argument (short n)) values left g (written_on values 8 none_gathered refl (omega arith))
written_on (long n ∷ values) left g sum below = written_alone (plain_argument (long n)) values left g (written_on values 8 none_gathered refl (omega arith))
written_on (long_long n ∷ values) left g sum below = written_alone (plain_argument (long_long n)) values left g (written_on values 8 none_gathered refl (omega arith))
written_on (short_string t ∷ values) left g sum below = written_alone (plain_argument (short_string t)) values left g (written_on values 8 none_gathered refl (omega arith))
written_on (long_string t ∷ values) left g sum below = written_alone (plain_argument (long_string t)) values left g (written_on values 8 none_gathered refl (omega arith))
written_on (table p ∷ values) left g sum below = written_alone (plain_argument (table p)) values left g (written_on values 8 none_gathered refl (omega arith))

pub written_values-plain : (values : List Argument) → written_values values none_gathered ≡ plain_values values
written_values-plain values = written_on values 8 none_gathered refl (omega arith) ∙ head_joined (parts_of values)
