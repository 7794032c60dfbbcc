-- What a heartbeat, or a decision in the handshake, does at an end that is kept with its history.
use Rattle.std.specs.Prelude.{◌≡◌, Result, IfErr, OnErr, OnOk}
use Rattle.amqp_model.specs.End.Controls.{Control}
use Rattle.amqp_model.specs.History.Histories.{History}
use Rattle.amqp_model.specs.End.LawfulHistories.{then_put}
use Rattle.amqp_core.specs.Asks.Controlled.{frames_by}
use Rattle.amqp_core.specs.Asks.Controlling.{AcceptsControl, RefusesControl, verdict_at}
use Rattle.amqp_core.specs.Traced.View.{config_at, heard_in, role_played, settings_at, traced_of}
use Rattle.amqp_core.specs.Traced.Tracing.{IsTraceOf, SameLists}
use Rattle.amqp_core.specs.declared.faults.AskFault.{AskFault}
use Rattle.amqp_core.specs.declared.roles.Role.{Ghosts}
use Rattle.amqp_core.specs.declared.traced.Traced.{Traced}

-- It is accepted, and its frame is put; or it is refused, and nothing changes.
pub record ControlledTrace {A R H : Type 0} {G : Ghosts R H} (old : Traced R H G) (control : Control)
    (result : Result A AskFault) (new : Traced R H G) : Type 0 where
  -- Accepted: the end puts one frame on channel 0, and is left as the definitions say.
  pub accepted :
      OnOk result (AcceptsControl (role_played old) (config_at old) control (traced_of old).endpoint
      (traced_of new).endpoint)
  -- Refused: the fault is the refusal that applies, or out of memory; the end stays as it is.
  pub refused :
      IfErr result (λ fault. RefusesControl (role_played old) (config_at old) control fault (traced_of old).endpoint
      (traced_of new).endpoint)
  -- Refused, the lists stay as they are.
  pub same : OnErr result (SameLists (traced_of old) (traced_of new))
  -- Each history that it is the trace of goes on with the frame.
  pub history :
      OnOk result
      ((history : History) → IsTraceOf (role_played old) (config_at old) (traced_of old) history
      → ∥ IsTraceOf (role_played old) (config_at old) (traced_of new)
      (then_put (frames_by (verdict_at (role_played old) (config_at old) control (traced_of old).endpoint)) history) ∥₁)
  -- The octets fed stay.
  pub fed : (traced_of new).fed ≡ (traced_of old).fed
  -- The octets written stay.
  pub written : (traced_of new).written ≡ (traced_of old).written
  -- Its settings stay.
  pub settings : settings_at new ≡ settings_at old
  -- What it heard stays.
  pub heard : heard_in new ≡ heard_in old
