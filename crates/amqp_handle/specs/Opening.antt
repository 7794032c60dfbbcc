-- When a slot isn't opened.
use Rattle.std.specs.Prelude.{◌≡◌, ◌≢◌, Option, None}
use Rattle.amqp_handle.specs.declared.faults.HandleFault.{HandleFault}
use Rattle.amqp_handle.specs.declared.faults.HandleFault.TheVariants.{NotOpen, AlreadyOpen, OtherKind, OutOfMemory, Limit}

-- a slot that is open stays so; out of memory comes of a closed one alone
abbrev pub RefusesOpen : {A : Type 0} → HandleFault → Option A → Type 0
RefusesOpen AlreadyOpen value = value ≢ None
RefusesOpen OutOfMemory value = value ≡ None
RefusesOpen NotOpen value = ⊥
RefusesOpen OtherKind value = ⊥
RefusesOpen Limit value = ⊥
