-- Steps are what counting up takes.
use Rattle.std.proofs.Common.{◌≡◌, ℕ, zero, suc, ◌+◌, ◌<◌, ◌≤◌, ◌==◌, ◌⊎◌, ◌↔◌}
use Rattle.std.proofs.Common.{inl, inr, refl, sym, ap, ◌∙◌, arith, eq-eqb, ne_eqb}
use Rattle.std.proofs.lemmas.Bool.{cases_eq, cond-true, cond-false}
use Rattle.amqp_model.specs.Output.Arrangement.{steps}
use Rattle.amqp_model.specs.Output.ArrangementRules.{next_channel, counted, ComesNoLater}
use Rattle.amqp_model.proofs.Turns.{Up, Round, steps-cases, steps-least}

next-cases : (from : ℕ) → from < 65536 → ((from ≡ 65535) × (next_channel from ≡ 1))
    ⊎ ((from < 65535) × (next_channel from ≡ from + 1))
next-cases from h = cases (cases_eq from 65535)
  where
    cases : (from ≡ 65535) ⊎ (from ≡ 65535 → ⊥) → ((from ≡ 65535) × (next_channel from ≡ 1))
        ⊎ ((from < 65535) × (next_channel from ≡ from + 1))
    cases (inl e) = inl (e, cond-true (from == 65535) _ _ (eq-eqb from 65535 e))
    cases (inr n) = inr (omega arith, cond-false (from == 65535) _ _ (ne_eqb from 65535 n))

next-channel : (from : ℕ) → from < 65536 → next_channel from < 65536
next-channel from h = cases (next-cases from h)
  where
    cases : ((from ≡ 65535) × (next_channel from ≡ 1)) ⊎ ((from < 65535) × (next_channel from ≡ from + 1))
        → next_channel from < 65536
    cases (inl e) = let n = e.1 in omega arith
    cases (inr e) = let n = e.1 in omega arith

-- the first step
step-there : (from to : ℕ) → from < 65536 → 0 < to → to < 65536
    → next_channel from ≡ to → steps from to ≡ 1
step-there from to h p q e = cases (next-cases from h) (steps-cases from to)
  where
    cases : ((from ≡ 65535) × (next_channel from ≡ 1)) ⊎ ((from < 65535) × (next_channel from ≡ from + 1))
        → Up from to ⊎ Round from to → steps from to ≡ 1
    cases (inl n) (inl s) = let m = n.1 in omega arith
    cases (inl n) (inr s) = let m = n.1 in omega arith
    cases (inr n) (inl s) = let m = n.1 in omega arith
    cases (inr n) (inr s) = let m = n.1 in omega arith

step-on : (from to : ℕ) → from < 65536 → 0 < to → to < 65536 → (next_channel from ≡ to → ⊥)
    → steps from to ≡ suc (steps (next_channel from) to)
step-on from to h p q e = cases (next-cases from h) (steps-cases from to) (steps-cases (next_channel from) to)
  where
    cases : ((from ≡ 65535) × (next_channel from ≡ 1)) ⊎ ((from < 65535) × (next_channel from ≡ from + 1))
        → Up from to ⊎ Round from to → Up (next_channel from) to ⊎ Round (next_channel from) to
        → steps from to ≡ suc (steps (next_channel from) to)
    cases (inl n) (inl s) (inl t) = let m = n.1 in omega arith
    cases (inl n) (inl s) (inr t) = let m = n.1 in omega arith
    cases (inl n) (inr s) (inl t) = let m = n.1 in omega arith
    cases (inl n) (inr s) (inr t) = let m = n.1 in absurd (e (omega arith))
    cases (inr n) (inl s) (inl t) = let m = n.1 in omega arith
    cases (inr n) (inl s) (inr t) = let m = n.1 in absurd (e (omega arith))
    cases (inr n) (inr s) (inl t) = let m = n.1 in omega arith
    cases (inr n) (inr s) (inr t) = let m = n.1 in omega arith

lead : (n from to : ℕ) → from < 65536 → 0 < to → to < 65536 → steps from to ≡ n → counted n from ≡ to
lead zero from to h p q e = let s = steps-least from to h p in absurd (omega arith)
lead (suc n) from to h p q e =
    cases (cases_eq (next_channel from) to) (lead n (next_channel from) to (next-channel from h) p q)
  where
    cases : (next_channel from ≡ to) ⊎ (next_channel from ≡ to → ⊥)
        → (steps (next_channel from) to ≡ n → counted n (next_channel from) ≡ to)
        → counted n (next_channel from) ≡ to
    cases (inl there) _ =
        let s = step-there from to h p q there in
        let none : n ≡ 0 = omega arith in
        ap (λ m. counted m (next_channel from)) none ∙ there
    cases (inr on) more = let s = step-on from to h p q on in more (omega arith)

-- counting up so many steps leads there
pub steps-lead : (from to : ℕ) → from < 65536 → 0 < to → to < 65536 → counted (steps from to) from ≡ to
steps-lead from to h p q = lead (steps from to) from to h p q refl

-- and no fewer steps do
pub steps-fewest : (n from to : ℕ) → from < 65536 → 0 < to → to < 65536 → 0 < n
    → counted n from ≡ to → steps from to ≤ n
steps-fewest zero from to h p q some e = absurd (omega arith)
steps-fewest (suc n) from to h p q some e =
    cases (cases_eq (next_channel from) to) (steps-fewest n (next_channel from) to (next-channel from h) p q)
  where
    none : n ≡ 0 → next_channel from ≡ to
    none z = ap (λ m. counted m (next_channel from)) (sym z) ∙ e

    cases : (next_channel from ≡ to) ⊎ (next_channel from ≡ to → ⊥)
        → (0 < n → counted n (next_channel from) ≡ to → steps (next_channel from) to ≤ n)
        → steps from to ≤ suc n
    cases (inl there) _ = let s = step-there from to h p q there in omega arith
    cases (inr on) more =
        let s = step-on from to h p q on in
        let positive : n ≡ 0 → ⊥ = λ z. on (none z) in
        let few = more (omega (arith, positive)) e in
        omega arith

-- fewer steps lead to the lower channel above LAST, or else to the lower one
pub steps-lowest : (last a b : ℕ) → last < 65536 → 0 < a → a < 65536 → 0 < b → b < 65536
    → (steps last a ≤ steps last b) ↔ ComesNoLater last a b
steps-lowest last a b l a0 a1 b0 b1 = cases (steps-cases last a) (steps-cases last b)
  where
    cases : Up last a ⊎ Round last a → Up last b ⊎ Round last b
        → (steps last a ≤ steps last b) ↔ ComesNoLater last a b
    cases (inl s) (inl t) = (λ h. inl (omega arith, λ k. omega arith), back)
      where
        back : ComesNoLater last a b → steps last a ≤ steps last b
        back (inl c) = let m = c.1 (omega arith) in omega arith
        back (inr c) = omega arith
    cases (inl s) (inr t) = (λ h. inl (omega arith, λ k. omega arith), λ c. omega arith)
    cases (inr s) (inl t) = (λ h. absurd (omega arith), back)
      where
        back : ComesNoLater last a b → steps last a ≤ steps last b
        back (inl c) = omega arith
        back (inr c) = omega arith
    cases (inr s) (inr t) = (λ h. inr (omega arith, omega arith), back)
      where
        back : ComesNoLater last a b → steps last a ≤ steps last b
        back (inl c) = omega arith
        back (inr c) = omega arith
