-- What the calls do of an end that is kept with its history: a new one, a feed and a write. Its asks have a file of
-- their own (`Asks`), and so have what it decides (`Controls`) and what it answers (`Queries`).
-- Read before: what the history is (`Tracing`), and what comes of a piece (`Feeding`).
use Rattle.std.specs.Prelude.{◌≡◌, ◌≢◌, ◌<◌, ◌≤◌, true, false, ℕ, List, [], ◌++◌, length, take, Result, IfOk}
use Rattle.amqp_model.specs.End.EndVerdict.{takes_octets}
use Rattle.amqp_model.specs.End.Fitting.{ConfigWrites}
use Rattle.amqp_model.specs.End.Heard.{Heard}
use Rattle.amqp_model.specs.History.Histories.{History}
use Rattle.amqp_model.specs.History.Negotiation.{Config}
use Rattle.amqp_model.specs.Laws.HeardLaws.{KeepsHeard}
use Rattle.amqp_model.specs.Output.Outputs.{output_octets}
use Rattle.amqp_model.specs.Stream.Endpoint as model
use Rattle.amqp_model.specs.Stream.Endpoint.{after_feed, after_wrote}
use Rattle.amqp_model.specs.Wire.Notes.{Role}
use Rattle.amqp_core.specs.Faults.Answering.{ran_out}
use Rattle.amqp_core.specs.End.View as ends
use Rattle.amqp_core.specs.Faults.FeedFaults.{FeedFaults}
use Rattle.amqp_core.specs.End.Feeding.{IsFed, seen}
use Rattle.amqp_core.specs.Heard.Hearing.{Hears}
use Rattle.amqp_core.specs.Traced.Queries.{VerdictsOfHistory}
use Rattle.amqp_core.specs.Traced.View.{config_at, heard_in, role_played, settings_at, traced_of}
use Rattle.amqp_core.specs.Traced.Tracing.{FedGrows, IsTraceOf, Kept, TraceGoesOn, TraceGrows}
use Rattle.amqp_core.specs.declared.end.End.{End}
use Rattle.amqp_core.specs.declared.faults.CoreFault.{CoreFault}
use Rattle.amqp_core.specs.declared.roles.Role.{Ghosts}
use Rattle.amqp_core.specs.declared.taken.Taken.{Taken}
use Rattle.amqp_core.specs.declared.traced.Traced.{Traced}

-- An end that has done nothing yet is kept with the empty history.
pub record BeginsTrace {R H : Type 0} {G : Ghosts R H} (end : End R H G) (traced : Traced R H G) : Type 0 where
  -- It is that end.
  pub endpoint : (traced_of traced).endpoint ≡ ends.endpoint_of end
  -- It is set up as the end is.
  pub settings : settings_at traced ≡ ends.settings_at end
  -- It has heard what the end heard.
  pub heard : heard_in traced ≡ ends.heard_in end
  -- Its history is empty.
  pub trace : IsTraceOf (role_played traced) (config_at traced) (traced_of traced) []
  -- Nothing was fed.
  pub fed : (traced_of traced).fed ≡ []
  -- Nothing was written.
  pub written : (traced_of traced).written ≡ []
  -- What it is set up with can be written.
  pub writes : ∥ ConfigWrites (config_at traced) ∥₁

-- After a piece, the history that follows, of which the end is a trace then, and of which it keeps what was heard.
pub record TraceHearsOn (role : Role) (config : Config role) (old : Kept) (piece : List ℕ) (history : History)
    (new : Kept) (heard : Heard) : Type 0 where
  pub grows : TraceGrows role config old.endpoint piece (after_feed role config old.endpoint piece) history new
  pub keeps : KeepsHeard role config heard grows.after

-- so of each history that the end was a trace of and of which it kept what was heard
abbrev pub TraceHearingGoesOn :
    (role : Role) → Config role → (old : Kept) → (piece : List ℕ) → (new : Kept) → (before after : Heard) → Type 0
TraceHearingGoesOn role config old piece new before after =
    (history : History) → IsTraceOf role config old history → KeepsHeard role config before history
    → ∥ TraceHearsOn role config old piece history new after ∥₁

-- what the definitions make of a piece that the end is fed
abbrev pub fed_to : {R H : Type 0} {G : Ghosts R H} → Traced R H G → (piece : List ℕ) → model.Feeding
fed_to traced piece = after_feed (role_played traced) (config_at traced) (traced_of traced).endpoint piece

-- each history that it is kept with goes on with what comes of the piece
abbrev pub TracesGoOn : {R H : Type 0} {G : Ghosts R H} → (old : Traced R H G) → (piece : List ℕ)
    → Result Taken CoreFault → (new : Traced R H G) → Type 0
TracesGoOn old piece result new =
    (history : History) → IsTraceOf (role_played old) (config_at old) (traced_of old) history
    → ∥ TraceGoesOn (role_played old) (config_at old) (ran_out result) (traced_of old).endpoint piece
    (fed_to old piece) history (traced_of new) ∥₁

pub record FeedsTrace {R H : Type 0} {G : Ghosts R H} (old : Traced R H G) (piece : List ℕ)
    (result : Result Taken CoreFault) (new : Traced R H G) : Type 0 where
  -- The answer, the octets taken and the end that is left are those of the definitions; out of memory, the end has
  -- failed.
  pub fed : IsFed (seen result) (traced_of old).endpoint (fed_to old piece) (traced_of new).endpoint
  -- No more is taken than the piece has.
  pub within : IfOk result (λ taken. taken.octets ≤ length piece)
  -- Of a piece that has octets at least one is taken.
  pub progress : IfOk result (λ taken. piece ≢ [] → 0 < taken.octets)
  -- The octets taken are kept; out of memory, all lists stay as they are.
  pub octets : FedGrows (ran_out result) piece (fed_to old piece) (traced_of old) (traced_of new)
  -- Every history that it was kept with goes on with what came of the piece.
  pub history : TracesGoOn old piece result new
  -- Memory is refused only to an end that takes octets.
  pub memory : ran_out result ≡ true → takes_octets (traced_of old).endpoint.end.phase ≡ true
  -- After a fault the end has failed. One that is closed, or had failed before, takes nothing and stays as it is.
  pub faults : FeedFaults result (traced_of old).endpoint (traced_of new).endpoint
  -- What the end does with a frame is what its history gives.
  pub verdicts : VerdictsOfHistory old
  -- What the handshake awaits is heard, and what a close is about of which is told; nothing else is.
  pub heard :
      Hears (role_played old) (config_at old) result (traced_of old).endpoint piece (fed_to old piece) (heard_in old)
      (heard_in new)
  -- Of each history of which it kept what was heard in the handshake, it does so still.
  pub hearing :
      takes_octets (traced_of old).endpoint.end.phase ≡ true → ran_out result ≡ false
      → TraceHearingGoesOn (role_played old) (config_at old) (traced_of old) piece (traced_of new)
      (heard_in old).methods
      (heard_in new).methods
  -- Its settings stay.
  pub settings : settings_at new ≡ settings_at old

-- So many octets of the output were sent: they go from the output to what was written.
pub record WritesTrace {R H : Type 0} {G : Ghosts R H} (old : Traced R H G) (octets : ℕ)
    (new : Traced R H G) : Type 0 where
  -- They leave the output, and nothing else changes of what the end keeps.
  pub endpoint : (traced_of new).endpoint ≡ after_wrote octets (traced_of old).endpoint
  -- They stand after those written before.
  pub written :
      (traced_of new).written ≡ (traced_of old).written ++ take octets (output_octets (traced_of old).endpoint.output)
  -- Each history that it is kept with stays.
  pub history :
      (history : History) → IsTraceOf (role_played old) (config_at old) (traced_of old) history
      → IsTraceOf (role_played new) (config_at new) (traced_of new) history
  -- The octets fed stay.
  pub fed : (traced_of new).fed ≡ (traced_of old).fed
  -- Its settings stay.
  pub settings : settings_at new ≡ settings_at old
  -- What it heard stays.
  pub heard : heard_in new ≡ heard_in old
