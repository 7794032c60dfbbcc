-- What it is that a lending end lends the frames of a content, or begins one whose body is still to come. Read before: an ask (`Asks`) and a write (`Writes`).
use Rattle.std.specs.Prelude.{◌≡◌, ◌≢◌, ℕ, List, [], ◌++◌, length, Result, IfOk, IfErr, OnOk, OnErr}
use Rattle.amqp_model.specs.End.Asks.{Ask}
use Rattle.amqp_model.specs.Output.Outputs.{output_octets}
use Rattle.amqp_model.specs.Stream.Endpoint.{Endpoint}
use Rattle.amqp_outbox.specs.BodyToCome.{still_to_write}
use Rattle.amqp_outbox.specs.LentFrames.{content_left}
use Rattle.amqp_outbox.specs.declared.body.BodyWriter.{BodyWriter}
use Rattle.amqp_outbox.specs.declared.lent.ContentFrames.{ContentFrames}
use Rattle.amqp_core.specs.Asks.Effects.{AcceptsAsk, RefusesAsk}
use Rattle.amqp_core.specs.Asks.Lent.{all_wrote, asked_by}
use Rattle.amqp_core.specs.End.Counters.{counts_octets}
use Rattle.amqp_core.specs.Stream.History.{StreamAskGoesOn, StreamAskIsOfHistory, StreamWroteGoesOn}
use Rattle.amqp_core.specs.Stream.View.{config_at, counters_of, endpoint_of, heard_in, role_played, settings_at}
use Rattle.amqp_core.specs.declared.faults.LendFault.{LendFault}
use Rattle.amqp_core.specs.declared.faults.LendFault.TheVariants.{Refused, Waits}
use Rattle.amqp_core.specs.declared.roles.Role.{Ghosts}
use Rattle.amqp_core.specs.declared.stream.StreamEnd.{StreamEnd}

-- the end, once it is asked and before anything is written
abbrev pub asked_of : {R H : Type 0} {G : Ghosts R H} → StreamEnd R H G → Ask → Endpoint
asked_of old ask = asked_by (settings_at old) ask (endpoint_of old)

-- The ask is refused, as it is where its frames are put; or octets wait, and the end may not lend.
abbrev pub RefusesLending : {R H : Type 0} {G : Ghosts R H} → StreamEnd R H G → Ask → LendFault → Endpoint → Type 0
RefusesLending old ask (Refused fault) new = RefusesAsk (role_played old) ask fault (endpoint_of old) new
RefusesLending old ask Waits new = output_octets (endpoint_of old).output ≢ []

-- These octets are what frames lend.
abbrev pub Lend : ContentFrames → List ℕ → Type 0
Lend frames octets = content_left frames ≡ octets

-- These octets are written after those that were there before, but for what is still to be written of this body.
abbrev pub Begins : (before written body : List ℕ) → BodyWriter → List ℕ → Type 0
Begins before written body writer octets = written ++ still_to_write writer body ≡ before ++ octets

-- The frames of an ask are put, and all that waits then is given, and counts as written; or nothing changes.
pub record LendsContent {R H T : Type 0} {G : Ghosts R H} (old : StreamEnd R H G) (ask : Ask)
    (Gives : T → List ℕ → Type 0) (result : Result T LendFault) (new : StreamEnd R H G) : Type 0 where
  -- Lent: no refusal applies, and the end is asked as the definitions say.
  pub accepted : OnOk result (AcceptsAsk (role_played old) (config_at old) ask (endpoint_of old) (asked_of old ask))
  -- All that waits then is written, and nothing waited before.
  pub written : OnOk result (endpoint_of new ≡ all_wrote (asked_of old ask))
  pub alone : OnOk result (output_octets (endpoint_of old).output ≡ [])
  -- These are the octets.
  pub lent : IfOk result (λ given. Gives given (output_octets (asked_of old ask).output))
  -- Not given, there is a reason, and the end stays as it was.
  pub refused : IfErr result (λ fault. RefusesLending old ask fault (endpoint_of new))
  pub same : OnErr result (endpoint_of new ≡ endpoint_of old)
  -- Lent, every history that the end stood for goes on with the frames that are put,
  pub history : OnOk result
      (StreamAskGoesOn (role_played old) (config_at old) ask (endpoint_of old) (asked_of old ask))
  -- and with their octets, which are written.
  pub history_written : OnOk result (StreamWroteGoesOn (role_played old) (config_at old)
      (length (output_octets (asked_of old ask).output)) (asked_of old ask) (endpoint_of new))
  -- What comes of the ask is what each of these histories gives, memory and what waits aside.
  pub of_history : StreamAskIsOfHistory (role_played old) (config_at old) ask (endpoint_of old)
  -- The octets are counted.
  pub counters : OnOk result
      (counters_of new ≡ counts_octets (length (output_octets (asked_of old ask).output)) (counters_of old))
  pub counters_same : OnErr result (counters_of new ≡ counters_of old)
  -- What it heard stays.
  pub heard : heard_in new ≡ heard_in old
  -- Its settings stay.
  pub settings : settings_at new ≡ settings_at old
