-- What two writes, one after the other, appended.
use Rattle.std.proofs.Common.{◌≡◌, ℕ, ◌+◌, ◌-◌, List, ◌++◌, length, take, drop, Option, Some, None, ◌∙◌, ap, sym, append_assoc}
use Rattle.std.proofs.Math.Seq.{take-add, take-length}
use Rattle.std.proofs.lemmas.List.{length-drop}
use Rattle.std.specs.Io.KnownBytes.{append_known}

-- the part from m to the end of octets is what stands after the first m
pub part_to_end : (octets : List ℕ) (m : ℕ) → take (length octets - m) (drop m octets) ≡ drop m octets
part_to_end octets m = simp length-drop at (take-length (drop m octets))

-- a first run of octets was appended, and then a run after it: the two together were
pub appended_further : (before between after : Option (List ℕ)) (octets : List ℕ) (m n : ℕ)
    → between ≡ append_known before (take m octets) → after ≡ append_known between (take n (drop m octets))
    → after ≡ append_known before (take (m + n) octets)
appended_further None between after octets m n first second = second ∙ ap (λ k. append_known k (take n (drop m octets))) first
appended_further (Some known) between after octets m n first second =
    second ∙ ap (λ k. append_known k (take n (drop m octets))) first
    ∙ ap Some (append_assoc known (take m octets) (take n (drop m octets)) ∙ ap (λ l. known ++ l) (sym (take-add m n octets)))

-- a run was appended, and then another: the two together were
pub appended_both : (before between after : Option (List ℕ)) (first second : List ℕ) → between ≡ append_known before first
    → after ≡ append_known between second → after ≡ append_known before (first ++ second)
appended_both None between after first second one two = two ∙ ap (λ k. append_known k second) one
appended_both (Some known) between after first second one two =
    two ∙ (ap (λ k. append_known k second) one ∙ ap Some (append_assoc known first second))
