-- What an ask of an end that is kept with its history does. Read before: what comes of an ask (`Effects`).
use Rattle.std.specs.Prelude.{◌≡◌, ℕ, Option, Result, IfOk, IfErr, OnOk, OnErr}
use Rattle.amqp_model.specs.End.Asks.{Ask, frames_asked}
use Rattle.amqp_model.specs.End.LawfulHistories.{then_put}
use Rattle.amqp_model.specs.History.Histories.{History}
use Rattle.amqp_core.specs.Asks.Outcomes.{number_taken}
use Rattle.amqp_core.specs.Asks.Effects.{AcceptsAsk, RefusesAsk}
use Rattle.amqp_core.specs.Traced.Tracing.{IsTraceOf, SameLists}
use Rattle.amqp_core.specs.Traced.View.{config_at, heard_in, role_played, settings_at, traced_of}
use Rattle.amqp_core.specs.declared.faults.AskFault.{AskFault}
use Rattle.amqp_core.specs.declared.roles.Role.{Ghosts}
use Rattle.amqp_core.specs.declared.traced.Traced.{Traced}

-- The end does what is asked, and the lists go on with the frames that are put; or it refuses, and nothing changes.
pub record AskedTrace {A R H : Type 0} {G : Ghosts R H} (old : Traced R H G) (ask : Ask) (result : Result A AskFault)
    (new : Traced R H G) : Type 0 where
  -- Accepted: no refusal applies, and the end is left as the definitions say.
  pub accepted :
      OnOk result (AcceptsAsk (role_played old) (config_at old) ask (traced_of old).endpoint (traced_of new).endpoint)
  -- Refused: the fault is that of the first refusal that applies, or out of memory; the end stays as it is.
  pub refused :
      IfErr result (λ fault. RefusesAsk (role_played old) ask fault (traced_of old).endpoint (traced_of new).endpoint)
  -- Accepted, the history goes on with the frames that are put.
  pub history :
      OnOk result
      ((history : History) → IsTraceOf (role_played old) (config_at old) (traced_of old) history
      → ∥ IsTraceOf (role_played old) (config_at old) (traced_of new)
      (then_put (frames_asked (traced_of old).endpoint.end ask) history) ∥₁)
  -- Refused, the lists stay as they are.
  pub same : OnErr result (SameLists (traced_of old) (traced_of new))
  -- The octets fed stay.
  pub fed : (traced_of new).fed ≡ (traced_of old).fed
  -- The octets written stay.
  pub written : (traced_of new).written ≡ (traced_of old).written
  -- Its settings stay.
  pub settings : settings_at new ≡ settings_at old
  -- What it heard stays.
  pub heard : heard_in new ≡ heard_in old

-- The channel that is answered is the one that an open takes.
abbrev pub TraceAnswersNumber : {R H : Type 0} {G : Ghosts R H} → (old : Traced R H G) → Ask
    → Result (Option ℕ) AskFault → Type 0
TraceAnswersNumber old ask result = IfOk result (λ number. number ≡ number_taken (traced_of old).endpoint.end ask)
