-- Checking elements one after the other, as a loop does.
use Rattle.std.proofs.Common.{◌≡◌, ℕ, ◌-◌, ◌<◌, List, [], ◌∷◌, length, drop, Some, None, Result, Ok, Err, refl, sym, ap, ◌∙◌, arith}
use Rattle.amqp_value.specs.Checking.{skipped, measured, fault_in}
use Rattle.amqp_value.specs.Reading.{◌>>=◌, Read, Reader, name_at, elements, named, under}
use Rattle.amqp_value.specs.declared.fault.ValueFault.{ValueFault}
use Rattle.amqp_value.proofs.Adding.{named-is}
use Rattle.amqp_value.proofs.Elements.{Consumes, IsEnd-last, elements-next, elements-nil}

-- what was read, where the octets after it are known
pub skipped_ok : {X : Type 0} (read : Read X) (after : List ℕ) → skipped read ≡ Ok after → (x : X) × (read ≡ Ok (x, after))
skipped_ok (Ok x) after e =
    let is : x.1 ≡ after = cc in
    (x.0, ap (λ y. Ok (x.0, y)) is)
skipped_ok (Err d) after e = absurd cc

pub skipped_err : {X : Type 0} (read : Read X) (e : ValueFault) → skipped read ≡ Err e → read ≡ Err e
skipped_err (Ok x) e h = absurd cc
skipped_err (Err d) e h = ap (λ f. Err f) cc

-- a step after which no fault comes
fault_in_then : {A B : Type 0} (r : Result A ValueFault) (f : A → B) → fault_in (r >>= λ x. Ok (f x)) ≡ fault_in r
fault_in_then (Ok x) f = refl
fault_in_then (Err e) f = refl

pub fault_goes_on : {X : Type 0} (read : Reader X) (end : ℕ) → Consumes read end → (octets after : List ℕ) (total : Result (List X) ValueFault)
    → 0 < length octets → skipped (read end octets) ≡ Ok after → fault_in (elements read end octets) ≡ fault_in total → fault_in (elements read end after) ≡ fault_in total
fault_goes_on read end h octets after total long is so_far =
    let one = skipped_ok (read end octets) after is in
    let next : fault_in (elements read end octets) ≡ fault_in (elements read end after) =
    rw (elements-next read end h octets long, one.1) (fault_in_then (elements read end after) (λ others. one.0 ∷ others)) in
    sym next ∙ so_far

pub fault_ends : {X : Type 0} (read : Reader X) (end : ℕ) → Consumes read end → (e : ValueFault) (octets : List ℕ) (total : Result (List X) ValueFault)
    → 0 < length octets → skipped (read end octets) ≡ Err e → fault_in (elements read end octets) ≡ fault_in total → fault_in total ≡ Some e
fault_ends read end h e octets total long is so_far =
    let one : fault_in (elements read end octets) ≡ Some e = rw (elements-next read end h octets long, skipped_err (read end octets) e is) refl in
    sym so_far ∙ one

pub fault_is_done : {X : Type 0} (read : Reader X) (end : ℕ) (octets : List ℕ) (total : Result (List X) ValueFault) → length octets ≡ 0 → fault_in (elements read end octets) ≡ fault_in total → fault_in total ≡ None
fault_is_done read end [] total none so_far =
    let one : fault_in (elements read end []) ≡ None = rw (elements-nil read end) refl in
    sym so_far ∙ one
fault_is_done read end (octet ∷ octets) total none so_far = absurd (omega arith)

-- what is read has an octet at least
pub skipped-shorter : {X : Type 0} (read : Reader X) (end : ℕ) → Consumes read end → (octets after : List ℕ) → skipped (read end octets) ≡ Ok after → length after < length octets
skipped-shorter read end h octets after is =
    let one = skipped_ok (read end octets) after is in
    h.consumes octets (one.0, after) one.1

-- what follows what is read are the last of the octets
pub skipped-last : {X : Type 0} (read : Reader X) (end : ℕ) → Consumes read end → (octets after : List ℕ) → skipped (read end octets) ≡ Ok after → after ≡ drop (length octets - length after) octets
skipped-last read end h octets after is =
    let one = skipped_ok (read end octets) after is in
    IsEnd-last after octets (h.leaves octets (one.0, after) one.1)

-- elements without a fault, and those with one, before what is made of them
pub made_ok : {X Y : Type 0} (r : Result X ValueFault) (f : X → Y) (after : List ℕ) → fault_in r ≡ None → skipped (r >>= λ x. Ok (f x, after)) ≡ Ok after
made_ok (Ok x) f after e = refl
made_ok (Err d) f after e = absurd cc

pub made_err : {X Y : Type 0} (r : Result X ValueFault) (f : X → Y) (after : List ℕ) (e : ValueFault) → fault_in r ≡ Some e → skipped (r >>= λ x. Ok (f x, after)) ≡ Err e
made_err (Ok x) f after e h = absurd cc
made_err (Err d) f after e h = ap (λ g. Err g) cc

pub measured_ok : {X Y : Type 0} (r : Result X ValueFault) (f : X → Y) (n : ℕ) → fault_in r ≡ None → measured (r >>= λ x. Ok (f x, n)) ≡ Ok n
measured_ok (Ok x) f n e = refl
measured_ok (Err d) f n e = absurd cc

pub measured_err : {X Y : Type 0} (r : Result X ValueFault) (f : X → Y) (n : ℕ) (e : ValueFault) → fault_in r ≡ Some e → measured (r >>= λ x. Ok (f x, n)) ≡ Err e
measured_err (Ok x) f n e h = absurd cc
measured_err (Err d) f n e h = ap (λ g. Err g) cc

-- ---- a name, and what is skipped after it

under-skipped : {X : Type 0} (name : List ℕ) (read : Read X) → skipped (under name read) ≡ skipped read
under-skipped name (Ok x) = refl
under-skipped name (Err e) = refl

pub named-skipped : {X : Type 0} (read : Reader X) (end : ℕ) (octets name field : List ℕ) → name_at end octets ≡ Ok (name, field) → skipped (named read end octets) ≡ skipped (read end field)
named-skipped read end octets name field first = ap skipped (named-is read end octets name field first) ∙ under-skipped name (read end field)

pub named-unnamed : {X : Type 0} (read : Reader X) (end : ℕ) (octets : List ℕ) (e : ValueFault) → name_at end octets ≡ Err e → skipped (named read end octets) ≡ Err e
unfolding named
named-unnamed read end octets e is = rw is refl
