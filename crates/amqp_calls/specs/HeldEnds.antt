-- What a handle holds of an end, a client or a server, and what a call does with it.
use Rattle.std.specs.Prelude.{◌≡◌, ℕ, Option, Some, None}
use Rattle.amqp_core.specs.declared.roles.Role.{Ghosts}
use Rattle.amqp_core.specs.declared.stream.StreamEnd.{StreamEnd}
use Rattle.amqp_handle.specs.declared.kept.HeldEnd.{HeldEnd}
use Rattle.amqp_handle.specs.declared.kept.HeldEnd.TheVariants.{Client, Server}
use Rattle.amqp_handle.specs.declared.kept.Kept.{Kept}

-- a call does this with the end of an open handle; one that isn't open is refused, and stays so
abbrev pub Does : ℕ → ((R H : Type 0) (G : Ghosts R H) → (old new : Kept (StreamEnd R H G)) → Type 0)
    → (old new : Option HeldEnd) → Type 0
Does status P None new = (status ≡ 1) × (new ≡ None)
Does status P (Some (Client kept)) (Some (Client now)) = P _ _ _ kept now
Does status P (Some (Client kept)) new = ⊥
Does status P (Some (Server kept)) (Some (Server now)) = P _ _ _ kept now
Does status P (Some (Server kept)) new = ⊥

-- this holds of the end of an open handle; one that isn't open is refused
abbrev pub Of : ℕ → ((R H : Type 0) (G : Ghosts R H) → Kept (StreamEnd R H G) → Type 0) → Option HeldEnd → Type 0
Of status P None = status ≡ 1
Of status P (Some (Client kept)) = P _ _ _ kept
Of status P (Some (Server kept)) = P _ _ _ kept

-- a call answers this of the end, and leaves the handle as it is
abbrev pub Answers : ℕ → ((R H : Type 0) (G : Ghosts R H) → Kept (StreamEnd R H G) → Type 0)
    → (old new : Option HeldEnd) → Type 0
Answers status P old new = Of status P old × (new ≡ old)
