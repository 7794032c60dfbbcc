-- What is coming on channels whose content isn't at hand.
use Rattle.std.proofs.Common.{◌≡◌, ◌≢◌, ℕ, Option, Some, Bool, cond, refl, sym, subst}
use Rattle.std.proofs.lemmas.Bool.{ne_eqb}
use Rattle.amqp_handle.specs.Gathered.{is_at_hand}
use Rattle.amqp_handle.specs.declared.gathering.Parts.{Parts}

-- what is at hand of one channel doesn't count on another
pub elsewhere : (current : Option ℕ) (channel other : ℕ) (old new : Parts) (aside : Option Parts) → current ≡ Some channel → other ≢ channel
    → cond (is_at_hand other current) (Some new) aside ≡ cond (is_at_hand other current) (Some old) aside
elsewhere current channel other old new aside is differs =
    subst (λ at. cond (is_at_hand other at) (Some new) aside ≡ cond (is_at_hand other at) (Some old) aside) (sym is)
    (subst (λ (here : Bool). cond here (Some new) aside ≡ cond here (Some old) aside) (sym (ne_eqb channel other (λ same. differs (sym same)))) refl)
