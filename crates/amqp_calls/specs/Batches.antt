-- What a batch of feeds of an end behind a handle does. Read before: what it does where the events lend
-- (`LentBatches`), and where contents are gathered (`GatheredBatches`).
use Rattle.std.specs.Prelude.{Box, ◌≡◌, ℕ, List, Option, Some, None}
use Rattle.std.specs.Global.{Global}
use Rattle.amqp_core.specs.declared.roles.Role.{Ghosts}
use Rattle.amqp_core.specs.declared.stream.StreamEnd.{StreamEnd}
use Rattle.amqp_handle.specs.declared.gathering.Gathering.{Gathering}
use Rattle.amqp_handle.specs.declared.kept.HeldEnd.{HeldEnd}
use Rattle.amqp_handle.specs.declared.kept.Kept.{Kept}
use Rattle.amqp_calls.specs.GatheredBatches.{GathersBatch}
use Rattle.amqp_calls.specs.HeldEnds.{Of}
use Rattle.amqp_calls.specs.LentBatches.{LendsBatch}
use Rattle.amqp_calls.specs.declared.ends.batching.EventPlace.{EventPlace}
use Rattle.amqp_calls.specs.declared.ends.feeding.FedEnd.{FedEnd}

-- What is answered, and the end and the gathering that are left then. An end that lends has no gathering, before and
-- after.
abbrev pub BatchLeaves : {R H : Type 0} {G : Ghosts R H} → StreamEnd R H G → Option (Box Gathering Global) → List ℕ
    → List EventPlace → ℕ → FedEnd → (count : ℕ) → (now : List EventPlace) → (new : StreamEnd R H G)
    → (after : Option (Box Gathering Global)) → Type 0
BatchLeaves old None piece places status fed count now new None =
    LendsBatch old piece places status fed count now new
BatchLeaves old None piece places status fed count now new (Some after) = ⊥
BatchLeaves old (Some before) piece places status fed count now new None = ⊥
BatchLeaves old (Some before) piece places status fed count now new (Some after) =
    GathersBatch old before.value piece places status fed count now new after.value

-- of what a handle holds
abbrev pub BatchKept : {R H : Type 0} {G : Ghosts R H} → Kept (StreamEnd R H G) → List ℕ → List EventPlace → ℕ
    → FedEnd → (count : ℕ) → (now : List EventPlace) → (new : Kept (StreamEnd R H G)) → Type 0
BatchKept old piece places status fed count now new =
    BatchLeaves old.end.value old.gathering piece places status fed count now new.end.value new.gathering

-- what is answered, whatever is left
pub record BatchOne {R H : Type 0} {G : Ghosts R H} (old : Kept (StreamEnd R H G)) (piece : List ℕ)
    (places : List EventPlace) (status : ℕ) (fed : FedEnd) (count : ℕ) (now : List EventPlace) : Type 0 where
  pub new : Kept (StreamEnd R H G)
  pub leaves : BatchKept old piece places status fed count now new

-- a handle that isn't open is refused
abbrev pub FeedsBatch : Option HeldEnd → List ℕ → List EventPlace → ℕ → FedEnd → (count : ℕ) → (now : List EventPlace)
    → Type 0
FeedsBatch held piece places status fed count now =
    Of status (λ R H G kept. BatchOne kept piece places status fed count now) held × (held ≡ None → now ≡ places)
