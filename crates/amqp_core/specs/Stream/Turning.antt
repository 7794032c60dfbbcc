-- An end that gathers whole contents turns into one whose events lend, and back.
use Rattle.std.specs.Prelude.{◌≡◌, true, ℕ, List}
use Rattle.amqp_model.specs.History.Histories.{History}
use Rattle.amqp_model.specs.Laws.OctetLaws.{EndpointStandsFor}
use Rattle.amqp_model.specs.Laws.StreamingLaws.{StreamStandsFor}
use Rattle.amqp_core.specs.End.View as ends
use Rattle.amqp_core.specs.Stream.View as streams
use Rattle.amqp_core.specs.declared.end.End.{End}
use Rattle.amqp_core.specs.declared.roles.Role.{Ghosts}
use Rattle.amqp_core.specs.declared.stream.StreamEnd.{StreamEnd}

-- What it keeps and counts stays, so it stands for the same histories.
pub record TurnsLending {R H : Type 0} {G : Ghosts R H} (end : End R H G) (stream : StreamEnd R H G) : Type 0 where
  -- It keeps what the end kept.
  pub endpoint : streams.endpoint_of stream ≡ ends.endpoint_of end
  -- What was counted stays.
  pub counters : streams.counters_of stream ≡ ends.counters_of end
  -- Of its settings only that it lends is another.
  pub settings : streams.settings_at stream ≡ record (ends.settings_at end) { lends = true }
  -- What was heard stays.
  pub heard : streams.heard_in stream ≡ ends.heard_in end
  -- It stands for each history that the end stood for.
  pub history :
      (history : History) (fed written : List ℕ)
      → EndpointStandsFor (ends.role_played end) (ends.config_at end) (ends.endpoint_of end) history fed written
      → StreamStandsFor (ends.role_played end) (ends.config_at end) (streams.endpoint_of stream) history fed written

-- No content is under way, so it stands for the same histories as one that gathers.
pub record TurnsBack {R H : Type 0} {G : Ghosts R H} (stream : StreamEnd R H G) (end : End R H G) : Type 0 where
  -- It keeps what the stream kept.
  pub endpoint : ends.endpoint_of end ≡ streams.endpoint_of stream
  -- What was counted stays.
  pub counters : ends.counters_of end ≡ streams.counters_of stream
  -- What was heard stays.
  pub heard : ends.heard_in end ≡ streams.heard_in stream
  -- It stands for each history that the stream stood for.
  pub history :
      (history : History) (fed written : List ℕ)
      → StreamStandsFor (streams.role_played stream) (streams.config_at stream) (streams.endpoint_of stream) history
      fed written
      → EndpointStandsFor (streams.role_played stream) (streams.config_at stream) (ends.endpoint_of end) history fed
      written
