-- What a heartbeat, or a decision in the handshake, does at a lending end. Read before: what comes of it
-- (`Controlling`), and what it makes of each history that the end stands for (`History`).
use Rattle.std.specs.Prelude.{◌≡◌, Result, IfErr, OnOk}
use Rattle.amqp_model.specs.End.Controls.{Control}
use Rattle.amqp_core.specs.Asks.Controlling.{AcceptsControl, RefusesControl}
use Rattle.amqp_core.specs.Stream.History.{StreamControlGoesOn, StreamControlIsOfHistory}
use Rattle.amqp_core.specs.Stream.View.{config_at, counters_of, endpoint_of, role_played, settings_at, heard_in}
use Rattle.amqp_core.specs.declared.faults.AskFault.{AskFault}
use Rattle.amqp_core.specs.declared.roles.Role.{Ghosts}
use Rattle.amqp_core.specs.declared.stream.StreamEnd.{StreamEnd}

-- It is accepted, and its frame is put; or it is refused, and nothing changes.
pub record StreamControlled {A R H : Type 0} {G : Ghosts R H} (old : StreamEnd R H G) (control : Control)
    (result : Result A AskFault) (new : StreamEnd R H G) : Type 0 where
  -- Accepted: the end puts one frame on channel 0, and is left as the definitions say.
  pub accepted :
      OnOk result (AcceptsControl (role_played old) (config_at old) control (endpoint_of old) (endpoint_of new))
  -- Refused: the fault is the refusal that applies, or out of memory; the end stays as it is.
  pub refused :
      IfErr result (λ fault. RefusesControl (role_played old) (config_at old) control fault (endpoint_of old)
      (endpoint_of new))
  -- Accepted, every history that the end stood for goes on with the frame that is put.
  pub history :
      OnOk result (StreamControlGoesOn (role_played old) (config_at old) control (endpoint_of old) (endpoint_of new))
  -- What comes of it is what each of these histories gives, memory aside.
  pub of_history : StreamControlIsOfHistory (role_played old) (config_at old) control (endpoint_of old)
  -- Its settings stay.
  pub settings : settings_at new ≡ settings_at old
  -- What it counts stays.
  pub counters : counters_of new ≡ counters_of old
  -- What it heard stays.
  pub heard : heard_in new ≡ heard_in old
