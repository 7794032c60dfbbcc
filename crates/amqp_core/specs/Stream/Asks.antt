-- What an ask of a lending end does. Read before: what comes of an ask (`Effects`), and what it makes of each history
-- that the end stands for (`History`).
use Rattle.std.specs.Prelude.{◌≡◌, Option, Result, IfOk, IfErr, OnOk, ℕ, Some}
use Rattle.amqp_model.specs.End.Asks.{Ask, lowest_free}
use Rattle.amqp_core.specs.Asks.Outcomes.{number_taken}
use Rattle.amqp_core.specs.Asks.Effects.{AcceptsAsk, RefusesAsk}
use Rattle.amqp_core.specs.Stream.History.{StreamAskGoesOn, StreamAskIsOfHistory}
use Rattle.amqp_core.specs.Stream.View.{config_at, counters_of, endpoint_of, role_played, settings_at, heard_in}
use Rattle.amqp_core.specs.declared.faults.AskFault.{AskFault}
use Rattle.amqp_core.specs.declared.roles.Role.{Ghosts}
use Rattle.amqp_core.specs.declared.stream.StreamEnd.{StreamEnd}

-- An ask is accepted, and its frames are put; or it is refused, and nothing changes.
pub record StreamAsked {A R H : Type 0} {G : Ghosts R H} (old : StreamEnd R H G) (ask : Ask)
    (result : Result A AskFault) (new : StreamEnd R H G) : Type 0 where
  -- Accepted: no refusal applies, and the end is left as the definitions say.
  pub accepted : OnOk result (AcceptsAsk (role_played old) (config_at old) ask (endpoint_of old) (endpoint_of new))
  -- Refused: the fault is that of the first refusal that applies, or out of memory; the end stays as it is.
  pub refused : IfErr result (λ fault. RefusesAsk (role_played old) ask fault (endpoint_of old) (endpoint_of new))
  -- Accepted, every history that the end stood for goes on with the frames that are put.
  pub history : OnOk result (StreamAskGoesOn (role_played old) (config_at old) ask (endpoint_of old) (endpoint_of new))
  -- What comes of the ask is what each of these histories gives, memory aside.
  pub of_history : StreamAskIsOfHistory (role_played old) (config_at old) ask (endpoint_of old)
  -- Its settings stay.
  pub settings : settings_at new ≡ settings_at old
  -- What it counts stays.
  pub counters : counters_of new ≡ counters_of old
  -- What it heard stays.
  pub heard : heard_in new ≡ heard_in old

-- The channel that is answered is the one that an open takes.
abbrev pub StreamAnswersNumber : {R H : Type 0} {G : Ghosts R H} → (old : StreamEnd R H G) → Ask
    → Result (Option ℕ) AskFault → Type 0
StreamAnswersNumber old ask result = IfOk result (λ number. number ≡ number_taken (endpoint_of old).end ask)

-- The channel that is opened is the lowest that is free.
abbrev pub StreamAnswersLowest : {R H : Type 0} {G : Ghosts R H} → (old : StreamEnd R H G) → Result ℕ AskFault → Type 0
StreamAnswersLowest old result = IfOk result (λ number. lowest_free (endpoint_of old).end ≡ Some number)
