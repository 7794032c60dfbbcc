-- What a write of the output of an end does, and what handing it over does.
use Rattle.std.specs.Prelude.{◌≡◌, ◌≢◌, ℕ, [], length, Result, Err, OnOk, OnErr}
use Rattle.amqp_model.specs.Output.Outputs.{after_puts, output_octets}
use Rattle.amqp_model.specs.Stream.Endpoint.{after_wrote}
use Rattle.amqp_outbox.specs.OutboxFaults as faults
use Rattle.amqp_outbox.specs.OutboxView.{Outgoing, only}
use Rattle.amqp_outbox.specs.declared.handing.HandOverFault.{HandOverFault}
use Rattle.amqp_core.specs.End.Counters.{counts_octets}
use Rattle.amqp_core.specs.End.OutputOrder.{WroteGoesOn}
use Rattle.amqp_core.specs.End.View.{config_at, counters_of, endpoint_of, heard_in, role_played, settings_at}
use Rattle.amqp_core.specs.declared.end.End.{End}
use Rattle.amqp_core.specs.declared.roles.Role.{Ghosts}

-- So many octets of the output were sent.
pub record Wrote {R H : Type 0} {G : Ghosts R H} (old : End R H G) (octets : ℕ) (new : End R H G) : Type 0 where
  -- They leave the output, and nothing else changes of what it keeps.
  pub written : endpoint_of new ≡ after_wrote octets (endpoint_of old)
  -- In every history that the end stood for they are written.
  pub history : WroteGoesOn (role_played old) (config_at old) octets (endpoint_of old) (endpoint_of new)
  -- They are counted.
  pub counters : counters_of new ≡ counts_octets octets (counters_of old)
  -- What it heard stays.
  pub heard : heard_in new ≡ heard_in old
  -- Its settings stay.
  pub settings : settings_at new ≡ settings_at old

-- All that waits goes to a queue, or nothing changes, there or here.
pub record HandsOver {A R H : Type 0} {G : Ghosts R H} (old : End R H G) (queue : Outgoing)
    (result : Result A HandOverFault) (new : End R H G) (queue_after : Outgoing) : Type 0 where
  -- Handed over, the queue has the frames that waited, each put after those that it had.
  pub added : OnOk result (queue_after ≡ only (after_puts (endpoint_of old).output.row queue.output))
  -- Nothing was begun then, no frame and not the protocol header.
  pub none_begun : OnOk result ((endpoint_of old).output.ahead ≡ [])
  -- All that waited counts as written here.
  pub wrote : OnOk result (Wrote old (length (output_octets (endpoint_of old).output)) new)
  -- The answer is Begun only where something was begun.
  pub begun : result ≡ Err faults.begun → (endpoint_of old).output.ahead ≢ []
  -- Not handed over, the queue stays as it was.
  pub queue_same : OnErr result (queue_after.output ≡ queue.output)
  -- The end stays as it was then.
  pub same : OnErr result (endpoint_of new ≡ endpoint_of old)
  -- It has counted nothing then.
  pub counters_same : OnErr result (counters_of new ≡ counters_of old)
  -- What it heard stays.
  pub heard : heard_in new ≡ heard_in old
  -- Its settings stay.
  pub settings : settings_at new ≡ settings_at old
