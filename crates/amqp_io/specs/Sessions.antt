-- What a session does in a call, by its answer.
use Rattle.std.specs.Prelude.{◌≡◌, ◌⊎◌, ℕ, ◌<◌, ◌≤◌, min, List, length, take, Option, Result, Ok, Err}
use Rattle.std.specs.Io.KnownBytes.{append_known}
use Rattle.amqp_model.specs.Stream.Endpoint.{Endpoint, after_wrote}
use Rattle.amqp_model.specs.History.Negotiation.{Config}
use Rattle.amqp_model.specs.Wire.Notes.{Role}
use Rattle.amqp_model.specs.Output.Outputs.{output_octets}
use Rattle.amqp_io.specs.Intakes.{Intake, FeedsAll, FindsFault, LacksRoom}
use Rattle.amqp_io.specs.Refilling.{AreRead}
use Rattle.amqp_io.specs.declared.faults.IoFault.{IoFault}
use Rattle.amqp_io.specs.declared.faults.IoFault.TheVariants as io

-- the octets that a stream has to give, or has taken, where it tells them
abbrev pub Known : Type 0
Known = Option (List ℕ)

-- Pulling.

-- a fault in feeding the octets that are there
abbrev pub StopsFeeding : (role : Role) → Config role → IoFault → (old new : Intake) → Type 0
StopsFeeding role config (io.Core fault) old new = FindsFault role config fault old new
StopsFeeding role config io.OutOfMemory old new = LacksRoom role config old new
StopsFeeding role config fault old new = ⊥

-- what comes of feeding the octets that are there
abbrev pub FeedsThose : {A : Type 0} → (role : Role) → Config role → Result A IoFault → (old new : Intake) → Type 0
FeedsThose role config (Ok done) old new = FeedsAll role config old new
FeedsThose role config (Err fault) old new = StopsFeeding role config fault old new

-- the same, with these octets to feed
abbrev pub with_octets : List ℕ → Intake → Intake
with_octets octets intake = record { endpoint = intake.endpoint; octets = octets; events = intake.events }

-- The octets that were kept are all fed. Then others are read, by one read into this room, and this comes of feeding
-- them.
pub record ReadsThen (room : ℕ) (role : Role) (config : Config role) (result : Result ℕ IoFault) (old new : Intake)
    (to_give left : Known) : Type 0 where
  pub between : Intake
  pub octets : List ℕ
  pub kept_fed : FeedsAll role config old between
  pub read : AreRead room octets to_give left
  pub then_fed : FeedsThose role config result (with_octets octets between) new

-- A fault in feeding: either in feeding what was kept, and nothing is read, or in feeding what was read after.
abbrev StopsPulling : (room : ℕ) → (role : Role) → Config role → IoFault → (old new : Intake)
    → (to_give left : Known) → Type 0
StopsPulling room role config fault old new to_give left =
    (StopsFeeding role config fault old new × (left ≡ to_give))
    ⊎ ReadsThen room role config (Err fault) old new to_give left

-- One that answers Ok has fed all that was kept and all that it read. One that can't read has fed what was kept.
abbrev pub Pulls : (room : ℕ) → (role : Role) → Config role → Result ℕ IoFault → (old new : Intake)
    → (to_give left : Known) → Type 0
Pulls room role config (Ok n) old new to_give left = (reads : ReadsThen room role config (Ok n) old new to_give left)
    × (n ≡ length reads.octets)
Pulls room role config (Err io.Read) old new to_give left = FeedsAll role config old new × (left ≡ to_give)
Pulls room role config (Err io.EndOfInput) old new to_give left = FeedsAll role config old new × (left ≡ to_give)
Pulls room role config (Err io.Write) old new to_give left = ⊥
Pulls room role config (Err fault) old new to_give left = StopsPulling room role config fault old new to_give left

-- Pushing.

-- The first n octets of the output were taken by the stream, and count as written; nothing else has changed.
pub record Moves (n : ℕ) (old new : Endpoint) (before after : Known) : Type 0 where
  pub within : n ≤ length (output_octets old.output)
  pub written : new ≡ after_wrote n old
  pub taken : after ≡ append_known before (take n (output_octets old.output))

-- how many octets are to be written
abbrev pub due : (limit : ℕ) → Endpoint → ℕ
due limit endpoint = min limit (length (output_octets endpoint.output))

-- One that answers Ok has written all that was due, one that fails less.
abbrev pub Pushes : (limit : ℕ) → Result ℕ IoFault → (old new : Endpoint) → (before after : Known) → Type 0
Pushes limit (Ok n) old new before after = (n ≡ due limit old) × Moves n old new before after
Pushes limit (Err io.Write) old new before after = (n : ℕ) × ((n < due limit old) × Moves n old new before after)
Pushes limit (Err fault) old new before after = ⊥

-- Turns: a pull, and then a push of the whole output.

-- the pull answers Ok, and the push answers this
pub record PullThenPush (room : ℕ) (role : Role) (config : Config role) (result : Result ℕ IoFault) (old new : Intake)
    (to_give left before after : Known) : Type 0 where
  pub count : ℕ
  pub between : Intake
  pub pulls : Pulls room role config (Ok count) old between to_give left
  pub pushes : Pushes (length (output_octets between.endpoint.output)) result between.endpoint new.endpoint before after
  pub octets_stay : new.octets ≡ between.octets
  pub events_stay : new.events ≡ between.events

-- The fault is that of the one that fails. Where the pull does, nothing is written.
abbrev pub Turns :
    {A : Type 0} → (room : ℕ) → (role : Role) → Config role → Result A IoFault → (old new : Intake)
    → (to_give left before after : Known) → Type 0
Turns room role config (Ok done) old new to_give left before after = (n : ℕ)
    × PullThenPush room role config (Ok n) old new to_give left before after
Turns room role config (Err fault) old new to_give left before after =
    (Pulls room role config (Err fault) old new to_give left × (after ≡ before))
    ⊎ PullThenPush room role config (Err fault) old new to_give left before after
