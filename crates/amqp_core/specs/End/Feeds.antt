-- What a feed of an end does. Read before: what a piece comes to (`Feeding`), and what an end stands for (`Following`).
use Rattle.std.specs.Prelude.{◌≡◌, ◌≢◌, ◌<◌, ◌≤◌, true, false, ℕ, List, [], length, Result, IsOk, IfOk}
use Rattle.amqp_model.specs.Stream.Endpoint as model
use Rattle.amqp_model.specs.Stream.Endpoint.{after_feed}
use Rattle.amqp_model.specs.End.EndVerdict.{takes_octets}
use Rattle.amqp_model.specs.History.Histories.{History}
use Rattle.amqp_model.specs.Laws.OctetLaws.{EndpointStandsFor}
use Rattle.amqp_core.specs.Faults.Answering.{ran_out}
use Rattle.amqp_core.specs.Faults.Blamed.{Blames}
use Rattle.amqp_core.specs.Connection.Dropping.{DropsInPlace}
use Rattle.amqp_core.specs.End.Counters.{CountsFrame}
use Rattle.amqp_core.specs.End.View.{counters_of, config_at, endpoint_of, role_played, settings_at, heard_in}
use Rattle.amqp_core.specs.Heard.OfEnd.{HearingGoesOn}
use Rattle.amqp_core.specs.Faults.FeedFaults.{FeedFaults}
use Rattle.amqp_core.specs.End.Feeding.{IsFed, seen}
use Rattle.amqp_core.specs.End.Following.{GoesOn}
use Rattle.amqp_core.specs.Heard.Hearing.{Hears}
use Rattle.amqp_core.specs.End.Queries.{VerdictsOfHistory}
use Rattle.amqp_core.specs.declared.end.End.{End}
use Rattle.amqp_core.specs.declared.faults.CoreFault.{CoreFault}
use Rattle.amqp_core.specs.declared.roles.Role.{Ghosts}
use Rattle.amqp_core.specs.declared.taken.Taken.{Taken}

-- what the definitions make of a piece that an end is fed
abbrev pub fed_to : {R H : Type 0} {G : Ghosts R H} → End R H G → (piece : List ℕ) → model.Feeding
fed_to end piece = after_feed (role_played end) (config_at end) (endpoint_of end) piece

-- each history that the end stands for goes on with what comes of the piece
abbrev pub HistoriesGoOn : {R H : Type 0} {G : Ghosts R H} → (old : End R H G) → (piece : List ℕ)
    → Result Taken CoreFault → (new : End R H G) → Type 0
HistoriesGoOn old piece result new =
    (history : History) (fed written : List ℕ)
    → EndpointStandsFor (role_played old) (config_at old) (endpoint_of old) history fed written
    → ∥ GoesOn (role_played old) (config_at old) (ran_out result) (endpoint_of old) history fed written piece
    (fed_to old piece) (endpoint_of new) ∥₁

pub record Feeds {R H : Type 0} {G : Ghosts R H} (old : End R H G) (piece : List ℕ) (result : Result Taken CoreFault)
    (new : End R H G) : Type 0 where
  -- The answer, the octets taken and the end that is left are those of the definitions; out of memory, the end has
  -- failed.
  pub fed : IsFed (seen result) (endpoint_of old) (fed_to old piece) (endpoint_of new)
  -- No more is taken than the piece has.
  pub within : IfOk result (λ taken. taken.octets ≤ length piece)
  -- Of a piece that has octets at least one is taken.
  pub progress : IfOk result (λ taken. piece ≢ [] → 0 < taken.octets)
  -- A header, a body or a heartbeat that is dropped takes no memory, where it lies whole in the piece.
  pub in_place : DropsInPlace (role_played old) (endpoint_of old) piece → IsOk result
  -- Every history that the end stood for goes on with what came of the piece.
  pub history : HistoriesGoOn old piece result new
  -- Memory is refused only to an end that takes octets.
  pub memory : ran_out result ≡ true → takes_octets (endpoint_of old).end.phase ≡ true
  -- After a fault the end has failed. One that is closed, or had failed before, takes nothing and stays as it is.
  pub faults : FeedFaults result (endpoint_of old) (endpoint_of new)
  -- What the end does with a frame is what each of these histories gives.
  pub verdicts : VerdictsOfHistory old
  -- A frame that is taken is counted.
  pub frames :
      takes_octets (endpoint_of old).end.phase ≡ true → ran_out result ≡ false
      → CountsFrame (role_played old) (config_at old) (endpoint_of old) piece (fed_to old piece) (counters_of old)
      (counters_of new)
  -- No octets count as written.
  pub octets : (counters_of new).octets ≡ (counters_of old).octets
  -- The octets taken are counted, and a fault of theirs is blamed.
  pub blames :
      Blames (role_played old) result (endpoint_of old) piece (fed_to old piece) (counters_of old).tally
      (counters_of new).tally
  -- What the handshake awaits is heard, and what a close is about of which is told; nothing else is.
  pub heard :
      Hears (role_played old) (config_at old) result (endpoint_of old) piece (fed_to old piece) (heard_in old)
      (heard_in new)
  -- Of each history of which it kept what was heard in the handshake, it does so still.
  pub hearing :
      takes_octets (endpoint_of old).end.phase ≡ true → ran_out result ≡ false
      → HearingGoesOn (role_played old) (config_at old) (endpoint_of old) piece (endpoint_of new) (heard_in old).methods
      (heard_in new).methods
  -- Its settings stay.
  pub settings : settings_at new ≡ settings_at old
