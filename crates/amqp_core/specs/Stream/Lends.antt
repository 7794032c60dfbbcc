-- What a feed of an end does whose events lend. Read before: what a piece comes to (`Lending`), and what such an end
-- stands for (`History`).
use Rattle.std.specs.Prelude.{◌≡◌, ◌≢◌, ◌<◌, ◌≤◌, true, false, ℕ, List, [], length, Result, IsOk, IfOk}
use Rattle.amqp_model.specs.End.EndVerdict.{takes_octets}
use Rattle.amqp_model.specs.History.Histories.{History}
use Rattle.amqp_model.specs.Laws.StreamingLaws.{StreamStandsFor}
use Rattle.amqp_model.specs.Stream.Endpoint as model
use Rattle.amqp_model.specs.Stream.Endpoint.{after_feed}
use Rattle.amqp_core.specs.Faults.Answering.{ran_out}
use Rattle.amqp_core.specs.Faults.Blamed.{Blames}
use Rattle.amqp_core.specs.Connection.Dropping.{DropsInPlace}
use Rattle.amqp_core.specs.Faults.FeedFaults.{FeedFaults}
use Rattle.amqp_core.specs.Heard.Hearing.{Hears}
use Rattle.amqp_core.specs.Stream.Lending.{IsLent, LentSeen}
use Rattle.amqp_core.specs.Heard.OfStream.{StreamHearingGoesOn}
use Rattle.amqp_core.specs.Stream.History.{StreamGoesOn}
use Rattle.amqp_core.specs.Stream.View.{config_at, counters_of, endpoint_of, role_played, settings_at, heard_in}
use Rattle.amqp_core.specs.declared.faults.CoreFault.{CoreFault}
use Rattle.amqp_core.specs.declared.roles.Role.{Ghosts}
use Rattle.amqp_core.specs.declared.stream.StreamEnd.{StreamEnd}

-- what the definitions make of a piece that the end is fed
abbrev pub lent_to : {R H : Type 0} {G : Ghosts R H} → StreamEnd R H G → (piece : List ℕ) → model.Feeding
lent_to end piece = after_feed (role_played end) (config_at end) (endpoint_of end) piece

-- each history that the end stands for goes on with what comes of the piece
abbrev pub StreamHistoriesGoOn : {R H : Type 0} {G : Ghosts R H} → (old : StreamEnd R H G) → (piece : List ℕ)
    → Result LentSeen CoreFault → (new : StreamEnd R H G) → Type 0
StreamHistoriesGoOn old piece result new =
    (history : History) (fed written : List ℕ)
    → StreamStandsFor (role_played old) (config_at old) (endpoint_of old) history fed written
    → ∥ StreamGoesOn (role_played old) (config_at old) (ran_out result) (endpoint_of old) history fed written piece
    (endpoint_of new) ∥₁

pub record Lends {R H : Type 0} {G : Ghosts R H} (old : StreamEnd R H G) (piece : List ℕ)
    (result : Result LentSeen CoreFault) (new : StreamEnd R H G) : Type 0 where
  -- The octets taken and the fault are those of the definitions, the event is what is lent where that is told, and
  -- what is left is alike; out of memory, the end has failed.
  pub lent :
      IsLent (role_played old) (config_at old) result (endpoint_of old) piece (lent_to old piece) (endpoint_of new)
  -- No more is taken than the piece has.
  pub within : IfOk result (λ seen. seen.octets ≤ length piece)
  -- Of a piece that has octets at least one is taken.
  pub progress : IfOk result (λ seen. piece ≢ [] → 0 < seen.octets)
  -- A header, a body or a heartbeat that is dropped takes no memory, where it lies whole in the piece.
  pub in_place : DropsInPlace (role_played old) (endpoint_of old) piece → IsOk result
  -- Every history that the end stood for goes on with what came of the piece.
  pub history : StreamHistoriesGoOn old piece result new
  -- Memory is refused only to an end that takes octets.
  pub memory : ran_out result ≡ true → takes_octets (endpoint_of old).end.phase ≡ true
  -- After a fault the end has failed. One that is closed, or had failed before, takes nothing and stays as it is.
  pub faults : FeedFaults result (endpoint_of old) (endpoint_of new)
  -- No octets count as written.
  pub octets : (counters_of new).octets ≡ (counters_of old).octets
  -- The octets taken are counted, and a fault of theirs is blamed.
  pub blames : Blames (role_played old) result (endpoint_of old) piece (lent_to old piece) (counters_of old).tally
      (counters_of new).tally
  -- What the handshake awaits is heard, and what a close is about of which is told; nothing else is.
  pub heard :
      Hears (role_played old) (config_at old) result (endpoint_of old) piece (lent_to old piece) (heard_in old)
      (heard_in new)
  -- Of each history of which it kept what was heard in the handshake, it does so still.
  pub hearing :
      takes_octets (endpoint_of old).end.phase ≡ true → ran_out result ≡ false
      → StreamHearingGoesOn (role_played old) (config_at old) (endpoint_of old) piece (endpoint_of new)
      (heard_in old).methods (heard_in new).methods
  -- Its settings stay.
  pub settings : settings_at new ≡ settings_at old
