-- What a call that concerns any handle does.
use Rattle.std.specs.Prelude.{◌≡◌, ◌≢◌, ℕ, Option, None, Result, Ok, Err, ◌⊎◌}
use Rattle.amqp_handle.specs.Statuses.{handle_number}
use Rattle.amqp_handle.specs.declared.faults.HandleFault.{HandleFault}

-- 0 where nothing was wrong
abbrev pub status_of : Result (Unit {0}) HandleFault → ℕ
status_of (Ok _) = 0
status_of (Err fault) = handle_number fault

-- an open handle is closed; one that isn't open is refused
abbrev pub Closes : {A : Type 0} → Option A → ℕ → Option A → Type 0
Closes old status new =
    ((status ≡ 0) × (old ≢ None) × (new ≡ None)) ⊎
    ((status ≡ 1) × (old ≡ None) × (new ≡ None))
