-- The first Free number that is found is the lowest.
use Rattle.std.proofs.Common.{◌≡◌, ◌≤◌, ◌<◌, ◌+◌, ◌==◌, Bool, true, false, ℕ, zero, suc}
use Rattle.std.proofs.Common.{arith, Option, Some, None, refl, sym, subst}
use Rattle.std.proofs.lemmas.Bool.{eqb-true, eqb-false}
use Rattle.amqp_model.specs.End.Channels.{Channel}
use Rattle.amqp_model.specs.End.Asks.{is_free, first_free}
use Rattle.amqp_model.specs.Laws.EndLaws.{FindsLowest}

later : (channels : ℕ → Channel) (many from : ℕ) (found : Option ℕ) → is_free (channels from) ≡ false
    → FindsLowest channels many (suc from) found → FindsLowest channels (suc many) from found
later channels many from (Some k) taken h =
    record {
      free = h.free;
      at_least = let l : suc from ≤ k = h.at_least in omega arith;
      below_end = let l : k < suc from + many = h.below_end in omega arith;
      none_below = λ j low high. at j low high (j == from) refl;
    }
  where
    at : (j : ℕ) → from ≤ j → j < k → (b : Bool) → (j == from) ≡ b → is_free (channels j) ≡ false
    at j low high true e = subst (λ c. is_free (channels c) ≡ false) (sym (eqb-true j from e)) taken
    at j low high false e =
        h.none_below j (let apart : j ≡ from → ⊥ = eqb-false j from e in above j low apart) high
      where
        above : (j : ℕ) → from ≤ j → (j ≡ from → ⊥) → suc from ≤ j
        above j low apart = omega arith
later channels many from None taken h = λ j low high. at j low high (j == from) refl
  where
    at : (j : ℕ) → from ≤ j → j < from + suc many → (b : Bool) → (j == from) ≡ b
        → is_free (channels j) ≡ false
    at j low high true e = subst (λ c. is_free (channels c) ≡ false) (sym (eqb-true j from e)) taken
    at j low high false e = let apart : j ≡ from → ⊥ = eqb-false j from e in h j (omega arith) (omega arith)

pub finds-lowest : (channels : ℕ → Channel) (many from : ℕ)
    → FindsLowest channels many from (first_free channels many from)
finds-lowest channels zero from = λ j low high. absurd (let h : j < from + 0 = high in omega arith)
finds-lowest channels (suc many) from = at (is_free (channels from)) refl (finds-lowest channels many (suc from))
  where
    at : (b : Bool) → is_free (channels from) ≡ b
        → FindsLowest channels many (suc from) (first_free channels many (suc from))
        → FindsLowest channels (suc many) from
        (elim b [ true ↦ Some from | false ↦ first_free channels many (suc from) ])
    at true free h =
        record {
          free = free;
          at_least = omega arith;
          below_end = omega arith;
          none_below = λ j low high. absurd (omega arith);
        }
    at false taken h = later channels many from (first_free channels many (suc from)) taken h
