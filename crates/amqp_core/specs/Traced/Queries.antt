-- What an end that is kept with its history answers of itself, for each history that it is kept with.
use Rattle.std.specs.Prelude.{◌≡◌, Bool, false, ℕ, Option}
use Rattle.amqp_model.specs.End.Channels.{Agreed}
use Rattle.amqp_model.specs.History.Histories.{History}
use Rattle.amqp_model.specs.Wire.Methods.{MethodKind}
use Rattle.amqp_model.specs.History.States.{State}
use Rattle.amqp_core.specs.End.Counted.{AgreedIs, DueIs, GatheredIs, HeartbeatIs, PendingIs, PhaseIs, StateIs}
use Rattle.amqp_core.specs.End.Counted.{is_failed}
use Rattle.amqp_core.specs.End.OfHistory.{VerdictsAreOf}
use Rattle.amqp_core.specs.Traced.Tracing.{IsTraceOf, IsWrittenInOrder}
use Rattle.amqp_core.specs.Traced.View.{config_at, role_played, traced_of}
use Rattle.amqp_core.specs.declared.roles.Role.{Ghosts}
use Rattle.amqp_core.specs.declared.stage.Phase.{Phase}
use Rattle.amqp_core.specs.declared.traced.Traced.{Traced}

-- the end has failed
abbrev has_failed : {R H : Type 0} {G : Ghosts R H} → Traced R H G → Bool
has_failed traced = is_failed (traced_of traced).endpoint.end.phase

-- the end is the trace of the history
abbrev pub IsKeptWith : {R H : Type 0} {G : Ghosts R H} → Traced R H G → History → Type 0
IsKeptWith traced history = IsTraceOf (role_played traced) (config_at traced) (traced_of traced) history

pub record OfItsHistory {R H : Type 0} {G : Ghosts R H} (traced : Traced R H G) (says : History → Type 0) : Type 0 where
  -- the end is kept with a history
  pub one : ∥ ((history : History) × IsKeptWith traced history) ∥₁
  -- and this holds of each that it is the trace of
  pub each : (history : History) → IsKeptWith traced history → says history

abbrev pub PhaseOfHistory : {R H : Type 0} {G : Ghosts R H} → Traced R H G → Phase → Type 0
PhaseOfHistory traced phase =
    OfItsHistory traced (λ history. PhaseIs (role_played traced) (has_failed traced) history phase)

abbrev pub AgreedOfHistory : {R H : Type 0} {G : Ghosts R H} → Traced R H G → Option Agreed → Type 0
AgreedOfHistory traced agreed =
    OfItsHistory traced (λ history. AgreedIs (role_played traced) (config_at traced) history agreed)

abbrev pub HeartbeatOfHistory : {R H : Type 0} {G : Ghosts R H} → Traced R H G → (heartbeat : ℕ) → Type 0
HeartbeatOfHistory traced heartbeat =
    OfItsHistory traced (λ history. HeartbeatIs (role_played traced) (config_at traced) history heartbeat)

abbrev pub StateOfHistory : {R H : Type 0} {G : Ghosts R H} → Traced R H G → (number : ℕ) → State → Type 0
StateOfHistory traced number state =
    OfItsHistory traced
    (λ history. StateIs (role_played traced) (config_at traced) (has_failed traced) history number state)

-- until a fault, the octets fed after the last whole frame, or of the protocol header
abbrev pub PendingOfHistory : {R H : Type 0} {G : Ghosts R H} → Traced R H G → (count : ℕ) → Type 0
PendingOfHistory traced count =
    OfItsHistory traced
    (λ history. has_failed traced ≡ false
    → PendingIs (role_played traced) (config_at traced) history (traced_of traced).fed count)

abbrev pub GatheredOfHistory : {R H : Type 0} {G : Ghosts R H} → Traced R H G → (number count : ℕ) → Type 0
GatheredOfHistory traced number count =
    OfItsHistory traced
    (λ history. GatheredIs (role_played traced) (config_at traced) (has_failed traced) history number count)

abbrev pub DueOfHistory : {R H : Type 0} {G : Ghosts R H} → Traced R H G → (number : ℕ) → Option MethodKind → Type 0
DueOfHistory traced number request =
    OfItsHistory traced
    (λ history. DueIs (role_played traced) (config_at traced) (has_failed traced) history number request)

-- until a fault, what it does with each frame is what its history gives
abbrev pub VerdictsOfHistory : {R H : Type 0} {G : Ghosts R H} → Traced R H G → Type 0
VerdictsOfHistory traced =
    OfItsHistory traced
    (λ history. has_failed traced ≡ false
    → VerdictsAreOf (role_played traced) (config_at traced) (traced_of traced).endpoint.end history)

-- What was written and the output are in the order of the frames put, after what the end began with.
abbrev pub OutputOfHistory : {R H : Type 0} {G : Ghosts R H} → Traced R H G → Type 0
OutputOfHistory traced =
    OfItsHistory traced
    (λ history. ∥ IsWrittenInOrder (role_played traced) history (traced_of traced).written
    (traced_of traced).endpoint.output ∥₁)
