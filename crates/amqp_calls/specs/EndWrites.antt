-- What an end behind a handle does where octets of its output were sent, and where it forgets what it heard.
use Rattle.std.specs.Prelude.{◌≡◌, ◌≤◌, ℕ, length}
use Rattle.amqp_model.specs.End.Heard.{nothing_heard}
use Rattle.amqp_model.specs.Output.Outputs.{output_octets}
use Rattle.amqp_core.specs.Stream.View.{counters_of, endpoint_of, heard_in, settings_at}
use Rattle.amqp_core.specs.Stream.Writes.{StreamWrote}
use Rattle.amqp_core.specs.declared.roles.Role.{Ghosts}
use Rattle.amqp_core.specs.declared.stream.StreamEnd.{StreamEnd}

-- So many octets of its output were sent.
pub record Sent {R H : Type 0} {G : Ghosts R H} (old : StreamEnd R H G) (octets : ℕ)
    (new : StreamEnd R H G) : Type 0 where
  -- the output had so many
  pub there : octets ≤ length (output_octets (endpoint_of old).output)
  -- they are written
  pub wrote : StreamWrote old octets new

-- What it heard in the handshake is forgotten, and nothing else changes.
pub record Forgot {R H : Type 0} {G : Ghosts R H} (old new : StreamEnd R H G) : Type 0 where
  -- no method is kept, and what a close was about is
  pub heard : heard_in new ≡ record (heard_in old) { methods = nothing_heard }
  -- the end, what it counted and its settings stay
  pub end : endpoint_of new ≡ endpoint_of old
  pub counters : counters_of new ≡ counters_of old
  pub settings : settings_at new ≡ settings_at old
