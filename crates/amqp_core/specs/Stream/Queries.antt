-- What a lending end answers of itself, for every history that it stands for.
use Rattle.std.specs.Prelude.{false, ℕ, List, Option}
use Rattle.amqp_model.specs.End.Channels.{Agreed}
use Rattle.amqp_model.specs.History.Histories.{History}
use Rattle.amqp_model.specs.History.States.{State}
use Rattle.amqp_model.specs.Laws.StreamingLaws.{StreamStandsFor}
use Rattle.amqp_model.specs.Wire.Methods.{MethodKind}
use Rattle.amqp_core.specs.End.Counted.{AgreedIs, DueIs, GatheredIs, PendingIs, PhaseIs, StateIs}
use Rattle.amqp_core.specs.End.OutputOrder.{OutputInOrder}
use Rattle.amqp_core.specs.Stream.View.{config_at, endpoint_of, role_played}
use Rattle.amqp_core.specs.declared.roles.Role.{Ghosts}
use Rattle.amqp_core.specs.declared.stage.Phase.{Phase}
use Rattle.amqp_core.specs.declared.stream.StreamEnd.{StreamEnd}

-- this holds of every history that the end stands for, and of the octets that it was fed
abbrev OfEachHistory : {R H : Type 0} {G : Ghosts R H} → StreamEnd R H G → (History → (fed : List ℕ) → Type 0)
    → Type 0
OfEachHistory end says =
    (history : History) (fed written : List ℕ)
    → StreamStandsFor (role_played end) (config_at end) (endpoint_of end) history fed written
    → says history fed

abbrev pub PhaseOfHistory : {R H : Type 0} {G : Ghosts R H} → StreamEnd R H G → Phase → Type 0
PhaseOfHistory end phase = OfEachHistory end (λ history fed. PhaseIs (role_played end) false history phase)

abbrev pub AgreedOfHistory : {R H : Type 0} {G : Ghosts R H} → StreamEnd R H G → Option Agreed → Type 0
AgreedOfHistory end agreed =
    OfEachHistory end (λ history fed. AgreedIs (role_played end) (config_at end) history agreed)

abbrev pub StateOfHistory : {R H : Type 0} {G : Ghosts R H} → StreamEnd R H G → (number : ℕ) → State → Type 0
StateOfHistory end number state =
    OfEachHistory end (λ history fed. StateIs (role_played end) (config_at end) false history number state)

abbrev pub PendingOfHistory : {R H : Type 0} {G : Ghosts R H} → StreamEnd R H G → (count : ℕ) → Type 0
PendingOfHistory end count =
    OfEachHistory end (λ history fed. PendingIs (role_played end) (config_at end) history fed count)

-- so many octets of the content under way have come
abbrev pub CameOfHistory : {R H : Type 0} {G : Ghosts R H} → StreamEnd R H G → (number count : ℕ) → Type 0
CameOfHistory end number count =
    OfEachHistory end (λ history fed. GatheredIs (role_played end) (config_at end) false history number count)

abbrev pub DueOfHistory : {R H : Type 0} {G : Ghosts R H} → StreamEnd R H G → (number : ℕ) → Option MethodKind → Type 0
DueOfHistory end number request =
    OfEachHistory end (λ history fed. DueIs (role_played end) (config_at end) false history number request)

-- the frames stand in its output, and leave, in order
abbrev pub OutputIsInOrder : {R H : Type 0} {G : Ghosts R H} → StreamEnd R H G → Type 0
OutputIsInOrder end = OutputInOrder (role_played end) (config_at end) (endpoint_of end).output
