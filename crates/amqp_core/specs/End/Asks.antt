-- What an ask of an end does. Read before: what comes of an ask (`Effects`).
use Rattle.std.specs.Prelude.{◌≡◌, Option, Result, IfOk, IfErr, OnOk, ℕ, Some}
use Rattle.amqp_model.specs.End.Asks.{Ask, lowest_free}
use Rattle.amqp_core.specs.Asks.Outcomes.{number_taken}
use Rattle.amqp_core.specs.Asks.Effects.{AcceptsAsk, RefusesAsk}
use Rattle.amqp_core.specs.End.View.{config_at, counters_of, endpoint_of, heard_in, role_played, settings_at}
use Rattle.amqp_core.specs.declared.end.End.{End}
use Rattle.amqp_core.specs.declared.faults.AskFault.{AskFault}
use Rattle.amqp_core.specs.declared.roles.Role.{Ghosts}

-- An ask is accepted, and its frames are put; or it is refused, and nothing changes.
pub record Asked {A R H : Type 0} {G : Ghosts R H} (old : End R H G) (ask : Ask) (result : Result A AskFault)
    (new : End R H G) : Type 0 where
  -- Accepted: no refusal applies, and the end is left as the definitions say.
  pub accepted : OnOk result (AcceptsAsk (role_played old) (config_at old) ask (endpoint_of old) (endpoint_of new))
  -- Refused: the fault is that of the first refusal that applies, or out of memory; the end stays as it is.
  pub refused : IfErr result (λ fault. RefusesAsk (role_played old) ask fault (endpoint_of old) (endpoint_of new))
  -- Its settings stay.
  pub settings : settings_at new ≡ settings_at old
  -- What it counts stays.
  pub counters : counters_of new ≡ counters_of old
  -- What it heard stays.
  pub heard : heard_in new ≡ heard_in old

-- The channel that is answered is the one that an open takes.
abbrev pub AnswersNumber : {R H : Type 0} {G : Ghosts R H} → (old : End R H G) → Ask → Result (Option ℕ) AskFault
    → Type 0
AnswersNumber old ask result = IfOk result (λ number. number ≡ number_taken (endpoint_of old).end ask)

-- The channel that is opened is the lowest that is free.
abbrev pub AnswersLowest : {R H : Type 0} {G : Ghosts R H} → (old : End R H G) → Result ℕ AskFault → Type 0
AnswersLowest old result = IfOk result (λ number. lowest_free (endpoint_of old).end ≡ Some number)
