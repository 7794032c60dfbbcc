-- Reading pairs of octets of which nothing is known, one after the other.
use Rattle.std.proofs.Common.{◌≡◌, ℕ, ◌+◌, ◌-◌, ◌≤◌, ◌<◌, ltb, false, List, [], ◌∷◌, ◌++◌, length, take, drop, Result, Ok, Err}
use Rattle.std.proofs.Common.{refl, sym, ap, subst, ◌∙◌, append_assoc, arith, length-take, length-drop}
use Rattle.std.proofs.lemmas.Bool.{le-ltb}
use Rattle.std.proofs.lemmas.List.{append-nil, take_rest}
use Rattle.byteorder.specs.Endian.{big_number}
use Rattle.amqp_value.specs.Checking.{skipped}
use Rattle.amqp_value.specs.Reading.{◌>>=◌, AddsOne, name_at, elements, named, value_at, table_at}
use Rattle.amqp_value.specs.Values.{Datum, pairs_of}
use Rattle.amqp_value.specs.Whole.{BeginsPair}
use Rattle.amqp_value.specs.declared.fault.ValueFault.{ValueFault}
use Rattle.amqp_value.proofs.Adding.{name-is}
use Rattle.amqp_value.proofs.Complete.{list_of-pairs, elements-pairs_again, value_at-complete}
use Rattle.amqp_value.proofs.Elements.{bind_ok, guard_ok, elements-next, elements-nil, named-ok, pair-consumes}
use Rattle.amqp_value.proofs.Numbers.{IsBytes, IsBytes-take, IsBytes-drop}
use Rattle.amqp_value.proofs.Skipping.{skipped_ok}
use Rattle.amqp_value.proofs.Sound.{name_at-takes, elements-pairs, value_at-sound}
use Rattle.amqp_value.proofs.Whole.{is_read}

-- ---- a pair

-- a name that lies whole in what follows its length, and the value after it
pub pair-read : (levels end length_octet n : ℕ) (octets after name field rest : List ℕ) (value : Datum) → octets ≡ length_octet ∷ after → n ≡ length_octet → n ≤ length after → name ≡ take n after
    → take (length after - n) (drop n after) ≡ field → value_at levels end field ≡ Ok (value, rest) → named (value_at levels) end octets ≡ Ok ((name, value), rest)
pair-read levels end length_octet n octets after name field rest value whole same fits name_is field_is read =
    let first : name_at end octets ≡ Ok (name, field) = rw (whole, name_is, ← field_is, take_rest after n) (name-is end length_octet n after same fits) in
    named-ok (value_at levels) end octets name field rest value first read

-- a name, and a value, are read the same whatever the place of their end
name_at-anywhere : (end other : ℕ) (octets : List ℕ) (x : List ℕ × List ℕ) → name_at end octets ≡ Ok x → name_at other octets ≡ Ok x
name_at-anywhere end other [] x e = absurd cc
name_at-anywhere end other (n ∷ octets) x e =
    let g = guard_ok (ltb (length octets) n) _ _ x e in
    rw g.0 g.1

value_at-anywhere : (end other : ℕ) (octets : List ℕ) (x : Datum × List ℕ) → IsBytes octets → value_at 31 end octets ≡ Ok x → value_at 31 other octets ≡ Ok x
value_at-anywhere end other octets x fits e =
    let taken = (value_at-sound 31).takes end octets x fits e in
    ap (value_at 31 other) taken.parts ∙ (value_at-complete 31).again other x.0 taken.field x.1 taken.encodes taken.within

-- octets that were checked begin with a pair
pub begins-checked : (end : ℕ) (octets after : List ℕ) → IsBytes octets → skipped (named (value_at 31) end octets) ≡ Ok after → BeginsPair octets
unfolding named
begins-checked end octets after fits is =
    let one = skipped_ok (named (value_at 31) end octets) after is in
    let n = bind_ok (name_at end octets) _ (one.0, after) one.1 in
    let v = bind_ok (value_at 31 end n.0.1) _ (one.0, after) n.2 in
    let name = name_at-takes end octets n.0 fits n.1 in
    let read = named-ok (value_at 31) 0 octets n.0.0 n.0.1 v.0.1 v.0.0 (name_at-anywhere end 0 octets n.0 n.1) (value_at-anywhere end 0 n.0.1 v.0 name.after_fits v.1) in
    is_read (named (value_at 31) 0 octets) ((n.0.0, v.0.0), v.0.1) read

-- ---- the pairs of a table

-- the pairs that octets are read as, after those that are kept
abbrev pub read_on : List (List ℕ × Datum) → List ℕ → Result (List (List ℕ × Datum)) ValueFault
read_on kept octets = elements (named (value_at 31)) 0 octets >>= λ others. Ok (kept ++ others)

after_none : {X : Type 0} (r : Result (List X) ValueFault) → (r >>= λ others. Ok ([] ++ others)) ≡ r
after_none (Ok xs) = refl
after_none (Err e) = refl

after_one : {X : Type 0} (kept : List X) (x : X) (r : Result (List X) ValueFault)
    → ((r >>= λ others. Ok (x ∷ others)) >>= λ others. Ok (kept ++ others)) ≡ (r >>= λ others. Ok ((kept ++ x ∷ []) ++ others))
after_one kept x (Ok xs) = ap (λ ys. Ok ys) (sym (append_assoc kept (x ∷ []) xs))
after_one kept x (Err e) = refl

pub none-read : (octets : List ℕ) (kept : List (List ℕ × Datum)) → kept ≡ [] → read_on kept octets ≡ elements (named (value_at 31)) 0 octets
none-read octets kept none = rw none (after_none (elements (named (value_at 31)) 0 octets))

pub one-read : (body octets after : List ℕ) (kept longer : List (List ℕ × Datum)) → AddsOne kept (named (value_at 31) 0 octets) after longer → 0 < length octets → length octets ≤ length body
    → read_on kept octets ≡ elements (named (value_at 31)) 0 body → (length after ≤ length body) × (read_on longer after ≡ elements (named (value_at 31)) 0 body)
one-read body octets after kept longer one long within so_far =
    let consumes = pair-consumes 31 0 in
    let others = elements (named (value_at 31)) 0 after in
    let next : read_on kept octets ≡ ((others >>= λ xs. Ok (one.element ∷ xs)) >>= λ xs. Ok (kept ++ xs)) =
    rw (elements-next (named (value_at 31)) 0 consumes octets long, one.is_read) refl in (
      omega (arith, consumes.consumes octets (one.element, after) one.is_read),
      rw one.is_added (sym (after_one kept one.element others) ∙ sym next ∙ so_far),
    )

pub all-read : (octets : List ℕ) (kept : List (List ℕ × Datum)) (total : Result (List (List ℕ × Datum)) ValueFault) → length octets ≡ 0 → read_on kept octets ≡ total → total ≡ Ok kept
all-read [] kept total none so_far =
    let done : read_on kept [] ≡ Ok kept = rw (elements-nil (named (value_at 31)) 0) (ap (λ xs. Ok xs) (append-nil kept)) in
    sym so_far ∙ done
all-read (octet ∷ octets) kept total none so_far = absurd (omega arith)

-- ---- a table

-- the pairs are read the same whatever the place of their end
elements-anywhere : (end : ℕ) (octets : List ℕ) (xs : List (List ℕ × Datum)) → IsBytes octets → elements (named (value_at 31)) 0 octets ≡ Ok xs → elements (named (value_at 31)) end octets ≡ Ok xs
elements-anywhere end octets xs fits e =
    let sound = elements-pairs 31 (value_at 31) (value_at-sound 31) 0 octets xs fits e in
    elements-pairs_again 31 (value_at 31) (value_at-complete 31) end (pairs_of xs) octets sound.0 (omega (arith, sound.1)) ∙ ap (λ ys. Ok ys) (list_of-pairs xs)

-- the table whose pairs were read
pub table-read : (octets body : List ℕ) (xs : List (List ℕ × Datum)) → IsBytes octets → 4 ≤ length octets → length body ≡ big_number 4 octets → body ≡ take (big_number 4 octets) (drop 4 octets)
    → elements (named (value_at 31)) 0 body ≡ Ok xs → table_at octets ≡ Ok (pairs_of xs, 4 + length body)
unfolding table_at
table-read octets body xs fits long count is read =
    let n = big_number 4 octets in
    let bytes : IsBytes body = subst IsBytes (sym is) (IsBytes-take n (drop 4 octets) (IsBytes-drop 4 octets fits)) in
    let there : elements (named (value_at 31)) (4 + n) (take n (drop 4 octets)) ≡ Ok xs = ap (elements (named (value_at 31)) (4 + n)) (sym is) ∙ elements-anywhere (4 + n) body xs bytes read in
    let four : ltb (length octets) 4 ≡ false = le-ltb _ _ long in
    let enough : ltb (length octets - 4) n ≡ false = le-ltb _ _ (omega (arith, count, ap length is, length-take n (drop 4 octets), length-drop 4 octets)) in
    rw (count, four, enough, there) refl
