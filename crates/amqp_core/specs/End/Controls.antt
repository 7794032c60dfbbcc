-- What a heartbeat, or a decision in the handshake, does at an end. Read before: what comes of it (`Controlling`).
use Rattle.std.specs.Prelude.{◌≡◌, Result, IfErr, OnOk}
use Rattle.amqp_model.specs.End.Controls.{Control}
use Rattle.amqp_core.specs.Asks.Controlling.{AcceptsControl, RefusesControl}
use Rattle.amqp_core.specs.End.View.{config_at, counters_of, endpoint_of, heard_in, role_played, settings_at}
use Rattle.amqp_core.specs.declared.end.End.{End}
use Rattle.amqp_core.specs.declared.faults.AskFault.{AskFault}
use Rattle.amqp_core.specs.declared.roles.Role.{Ghosts}

-- It is accepted, and its frame is put; or it is refused, and nothing changes.
pub record Controlled {A R H : Type 0} {G : Ghosts R H} (old : End R H G) (control : Control)
    (result : Result A AskFault) (new : End R H G) : Type 0 where
  -- Accepted: the end puts one frame on channel 0, and is left as the definitions say.
  pub accepted :
      OnOk result (AcceptsControl (role_played old) (config_at old) control (endpoint_of old) (endpoint_of new))
  -- Refused: the fault is the refusal that applies, or out of memory; the end stays as it is.
  pub refused :
      IfErr result (λ fault. RefusesControl (role_played old) (config_at old) control fault (endpoint_of old)
      (endpoint_of new))
  -- Its settings stay.
  pub settings : settings_at new ≡ settings_at old
  -- What it counts stays.
  pub counters : counters_of new ≡ counters_of old
  -- What it heard stays.
  pub heard : heard_in new ≡ heard_in old
