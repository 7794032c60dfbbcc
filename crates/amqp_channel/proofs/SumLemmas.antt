-- Sums over the channels, where what is counted of one of them has changed.
use Rattle.std.proofs.Common.{◌≡◌, ◌≢◌, ◌<◌, ◌≤◌, ◌+◌, ◌*◌, ◌^◌, Bool, true, false, eqb, ℕ, zero, suc, refl, ap, sym, ◌∙◌, arith}
use Rattle.std.proofs.lemmas.Bool.{eqb-true, eqb-false}
use Rattle.amqp_model.specs.End.Amounts.{sum_to, IsSum}

sum_below : (most : ℕ) (old new : ℕ → ℕ) → ((n : ℕ) → n ≤ most → new n ≡ old n) → sum_to most new ≡ sum_to most old
sum_below zero old new same = refl
sum_below (suc n) old new same =
    let here = same (suc n) (omega arith) in
    let before = sum_below n old new (λ k within. same k (omega arith)) in
    omega (arith, here, before)

before_last : (n number : ℕ) → number ≤ suc n → suc n ≢ number → number ≤ n
before_last n number within apart = last (eqb (suc n) number) refl
  where
    last : (b : Bool) → eqb (suc n) number ≡ b → number ≤ n
    last true e = absurd (apart (eqb-true (suc n) number e))
    last false e = omega arith

pub sum_changed : (most number : ℕ) (old new : ℕ → ℕ) → 0 < number → number ≤ most → ((n : ℕ) → n ≢ number → new n ≡ old n)
    → sum_to most new + old number ≡ sum_to most old + new number
sum_changed zero number old new above within others = absurd (omega arith)
sum_changed (suc n) number old new above within others =
    by (eqb (suc n) number) refl (λ least. sum_changed n number old new above least others)
  where
    by : (b : Bool) → eqb (suc n) number ≡ b → (number ≤ n → sum_to n new + old number ≡ sum_to n old + new number)
        → sum_to (suc n) new + old number ≡ sum_to (suc n) old + new number
    by true e more =
        let same : suc n ≡ number = eqb-true (suc n) number e in
        let before = sum_below n old new (λ k below. others k (λ is. let at : k ≡ number = is in omega (arith, same, below, at))) in
        let was : old (suc n) ≡ old number = ap old same in
        let is : new (suc n) ≡ new number = ap new same in
        omega (arith, before, was, is)
    by false e more =
        let apart = eqb-false (suc n) number e in
        let before = more (before_last n number within apart) in
        let here = others (suc n) apart in
        omega (arith, before, here)

one_within : (most number : ℕ) (octets : ℕ → ℕ) → 0 < number → number ≤ most → octets number ≤ sum_to most octets
one_within zero number octets above within = absurd (omega arith)
one_within (suc n) number octets above within = by (eqb (suc n) number) refl (λ least. one_within n number octets above least)
  where
    by : (b : Bool) → eqb (suc n) number ≡ b → (number ≤ n → octets number ≤ sum_to n octets) → octets number ≤ sum_to (suc n) octets
    by true e more = let is : octets (suc n) ≡ octets number = ap octets (eqb-true (suc n) number e) in omega (arith, is)
    by false e more = let before = more (before_last n number within (eqb-false (suc n) number e)) in omega (arith, before)

sum_within : (most bound : ℕ) (octets : ℕ → ℕ) → ((n : ℕ) → octets n ≤ bound) → sum_to most octets ≤ most * bound
sum_within zero bound octets each = omega arith
sum_within (suc n) bound octets each =
    let before = sum_within n bound octets each in
    let here = each (suc n) in
    omega (arith, before, here)

-- What is counted of one channel is a part of the sum.
pub part_of_sum : (sum number : ℕ) (octets : ℕ → ℕ) → IsSum octets sum → 0 < number → number < 65536 → octets number ≤ sum
part_of_sum sum number octets is above within = at 65535 (omega arith) (omega arith)
  where
    at : (most : ℕ) → 65535 ≤ most → number ≤ most → octets number ≤ sum
    at most least in_all = let total = is most least in let one = one_within most number octets above in_all in omega (arith, total, one)

-- The sum is not large, where no part of it is.
pub sum_is_small : (sum : ℕ) (octets : ℕ → ℕ) → IsSum octets sum → ((n : ℕ) → octets n < 2 ^ 64) → sum ≤ 65535 * 2 ^ 64
sum_is_small sum octets is each = at 65535 (omega arith) refl
  where
    at : (most : ℕ) → 65535 ≤ most → most ≡ 65535 → sum ≤ 65535 * 2 ^ 64
    at most least e =
        let total = is most least in
        let all = sum_within most (2 ^ 64) octets (λ n. let small = each n in omega (arith, small)) in
        omega (arith, total, all, e)

-- Where nothing is counted of any, the sum is 0.
pub sum_of_none : (octets : ℕ → ℕ) → ((n : ℕ) → octets n ≡ 0) → IsSum octets 0
sum_of_none octets none most least = all most
  where
    all : (most : ℕ) → 0 ≡ sum_to most octets
    all zero = refl
    all (suc n) = let before = all n in let here = none (suc n) in omega (arith, before, here)

pub sum_same : (sum : ℕ) (old new : ℕ → ℕ) → ((n : ℕ) → new n ≡ old n) → IsSum old sum → IsSum new sum
sum_same sum old new same is most least = is most least ∙ sym (sum_below most old new (λ n within. same n))

-- One part has changed, and the sum with it.
pub sum_after : (old_sum new_sum number before left : ℕ) (old new : ℕ → ℕ) → 0 < number → number < 65536 → ((n : ℕ) → n ≢ number → new n ≡ old n)
    → before ≡ old number → left ≡ new number → new_sum + before ≡ old_sum + left → IsSum old old_sum → IsSum new new_sum
sum_after old_sum new_sum number before left old new above within others was is moved sum most least =
    let changed = sum_changed most number old new above (omega arith) others in
    let total = sum most least in
    omega (arith, changed, was, is, moved, total)
