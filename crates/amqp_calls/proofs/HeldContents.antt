-- A content behind a handle: what a call of it gives, put together.
use Rattle.std.proofs.Common.{◌≡◌, Option, Some, subst, sym}
use Rattle.amqp_handle.specs.Slots.{Handle}
use Rattle.amqp_handle.specs.declared.held.Held.{Held}

-- what holds of what a slot held holds of the slot
pub of_slot : (P : Option Held → Type 0) (slot now : Handle) (held found : Held) → now ≡ slot → Some held ≡ now.value → held ≡ found
    → P (Some found) → P slot.value
of_slot P slot now held found same is of holds =
    subst (λ (s : Handle). P s.value) same (subst P is (subst (λ (h : Held). P (Some h)) (sym of) holds))
