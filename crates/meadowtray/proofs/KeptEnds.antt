-- An end behind a handle: what a call of it gives, put together.
use Rattle.std.proofs.Common.{◌≡◌, Option, Some, sym, subst}
use Rattle.amqp_handle.specs.EndSlots.{EndHandle}
use Rattle.amqp_handle.specs.declared.kept.HeldEnd.{HeldEnd}

-- what holds of what a slot held holds of the slot
pub of_held : (P : Option HeldEnd → Type 0) (slot now : EndHandle) (held found : HeldEnd) → now ≡ slot → Some held ≡ now.value → held ≡ found
    → P (Some found) → P slot.value
of_held P slot now held found same is of holds =
    subst (λ (s : EndHandle). P s.value) same (subst P is (subst (λ (h : HeldEnd). P (Some h)) (sym of) holds))
