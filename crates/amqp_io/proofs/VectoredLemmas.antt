-- A write of the start of a row, as one of the row.
use Rattle.std.proofs.Common.{◌≡◌, ℕ, ◌<◌, ◌≤◌, List, [], ◌∷◌, ◌++◌, length, take, Option, Result, Ok, Err, IfOk, ap, sym, ◌∙◌, refl, append_assoc, arith}
use Rattle.std.proofs.Math.Seq.{take-append_seam}
use Rattle.std.proofs.lemmas.List.{take-take}
use Rattle.std.specs.Io.KnownBytes.{append_known}
use Rattle.amqp_io.specs.Streams.{Marks, WriteFails}
use Rattle.amqp_io.specs.declared.faults.StreamFailed.{StreamFailed}

-- the start of a row that has any
pub record Starts (start row : List ℕ) : Type 0 where
  pub is : start ≡ take (length start) row
  pub some : start ≡ [] → row ≡ []

-- a start has octets exactly where the row has
pub start_has : (start row : List ℕ) → Starts start row → 0 < length row → 0 < length start
start_has [] row starts has = absurd (omega (arith, ap length (starts.some refl), has))
start_has (x ∷ xs) row starts has = omega arith

pub row_has : (start row : List ℕ) → Starts start row → 0 < length start → 0 < length row
row_has [] row starts has = absurd (omega (arith, has))
row_has (x ∷ xs) [] starts has = absurd (omega (arith, ap length starts.is))
row_has (x ∷ xs) (y ∷ ys) starts has = omega arith

pub take_of_start : (n : ℕ) (start row : List ℕ) → Starts start row → n ≤ length start → take n start ≡ take n row
take_of_start n start row starts within = ap (take n) starts.is ∙ take-take n (length start) row within

pub marks_of_row : (result : Result ℕ StreamFailed) (start row : List ℕ) (before after : ℕ) → Starts start row
    → Marks (WriteFails result start) before after → Marks (WriteFails result row) before after
marks_of_row (Ok n) start row before after starts marks = (
  λ fails. marks.0 (fails.0, start_has start row starts fails.1),
  λ fine. marks.1 (λ fails. fine (fails.0, row_has start row starts fails.1)),
)
marks_of_row (Err failed) start row before after starts marks = marks

-- the first octets of a row, of which the first piece has some where the row does
pub starts_with : (start rest row : List ℕ) → row ≡ start ++ rest → (start ≡ [] → row ≡ []) → Starts start row
starts_with start rest row parts some = record {
  is = sym (ap (take (length start)) parts ∙ take-append_seam start rest);
  some = some;
}

-- nothing and then something is nothing: so is the first
pub first_nil : (first rest : List ℕ) → first ++ rest ≡ [] → first ≡ []
first_nil [] rest e = refl
first_nil (x ∷ xs) rest e = absurd (omega (arith, ap length e))

-- four pieces, one after the other, are the start of a row
pub four_start : (a b c d row p q r s : List ℕ) → row ≡ a ++ p → p ≡ b ++ q → q ≡ c ++ r → r ≡ d ++ s
    → (a ≡ [] → row ≡ []) → Starts (a ++ (b ++ (c ++ (d ++ [])))) row
four_start a b c d row p q r s first second third fourth some =
    starts_with (a ++ (b ++ (c ++ (d ++ [])))) s row
    (grind (arith, first, second, third, fourth, append_assoc))
    (λ e. some (first_nil a (b ++ (c ++ (d ++ []))) e))

-- what is said of a write of the start holds of the row
pub appended_of_row : (result : Result ℕ StreamFailed) (start row : List ℕ) (before after : Option (List ℕ))
    → Starts start row → IfOk result (λ n. n ≤ length start)
    → IfOk result (λ n. after ≡ append_known before (take n start))
    → IfOk result (λ n. after ≡ append_known before (take n row))
appended_of_row (Ok n) start row before after starts within appended =
    appended ∙ ap (append_known before) (take_of_start n start row starts within)
appended_of_row (Err failed) start row before after starts within appended = appended
