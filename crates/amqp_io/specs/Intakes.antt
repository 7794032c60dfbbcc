-- How a session feeds its end the octets that it has read, feed after feed.
use Rattle.std.specs.Prelude.{◌≡◌, ℕ, ◌<◌, List, [], ◌++◌, length, drop, option_to_list, Result, Ok, Err}
use Rattle.amqp_model.specs.Stream.Endpoint.{Endpoint, after_feed}
use Rattle.amqp_model.specs.History.Histories.{History}
use Rattle.amqp_model.specs.History.Negotiation.{Config}
use Rattle.amqp_model.specs.Wire.Notes.{Role}
use Rattle.amqp_model.specs.Laws.OctetLaws.{EndpointStandsFor}
use Rattle.amqp_core.specs.Faults.Answering.{ran_out}
use Rattle.amqp_core.specs.End.Feeding.{IsFed, seen}
use Rattle.amqp_core.specs.End.Following.{GoesOn}
use Rattle.amqp_core.specs.Events.{Event}
use Rattle.amqp_core.specs.declared.taken.Taken.{Taken}
use Rattle.amqp_core.specs.declared.faults.CoreFault.{CoreFault}

-- An end, the octets that were read and not fed to it, and the events that were not handed out, oldest first.
pub record Intake : Type 0 where
  pub endpoint : Endpoint
  pub octets : List ℕ
  pub events : List Event

-- each history that the end stands for goes on, by what comes of these octets
abbrev pub HistoriesGoOn :
    (role : Role) → Config role → Result Taken CoreFault → (old : Endpoint) → (octets : List ℕ) → (new : Endpoint)
    → Type 0
HistoriesGoOn role config result old octets new =
    (history : History) (fed written : List ℕ)
    → EndpointStandsFor role config old history fed written
    → ∥ GoesOn role config (ran_out result) old history fed written octets (after_feed role config old octets) new ∥₁

-- What one feed of these octets promises: its answer, and the end that is left, are those of the definitions.
pub record Feeds (role : Role) (config : Config role) (result : Result Taken CoreFault) (old : Endpoint)
    (octets : List ℕ) (new : Endpoint) : Type 0 where
  pub answered : IsFed (seen result) old (after_feed role config old octets) new
  pub follows : HistoriesGoOn role config result old octets new

-- after a feed: the octets taken are gone from the start, and the event, if there is one, comes last
abbrev pub after_taking : Intake → Taken → Endpoint → Intake
after_taking intake taken endpoint =
    record {
      endpoint = endpoint;
      octets = drop taken.octets intake.octets;
      events = intake.events
          ++ option_to_list taken.event;
    }

-- Any number of feeds, each of all the octets that are left, and each answered Ok. So the octets are fed in order and
-- once each, and no event is lost.
pub data FeedsOn (role : Role) (config : Config role) (old : Intake) : Intake → Type 0 where
  not_yet : FeedsOn role config old old
  once_more : (intake : Intake) (taken : Taken) (endpoint : Endpoint) → FeedsOn role config old intake
      → 0 < length intake.octets
      → Feeds role config (Ok taken) intake.endpoint intake.octets endpoint
      → FeedsOn role config old (after_taking intake taken endpoint)

-- all octets were fed
pub record FeedsAll (role : Role) (config : Config role) (old new : Intake) : Type 0 where
  pub fed : FeedsOn role config old new
  pub none_left : new.octets ≡ []

-- Feeds, and then one that finds a fault: the octets after are dropped, the events stay.
pub record FindsFault (role : Role) (config : Config role) (fault : CoreFault) (old new : Intake) : Type 0 where
  pub before : Intake
  pub fed : FeedsOn role config old before
  pub some_left : 0 < length before.octets
  pub found : Feeds role config (Err fault) before.endpoint before.octets new.endpoint
  pub dropped : new.octets ≡ []
  pub events_stay : new.events ≡ before.events

-- Feeds, and then no room for the event of a next one: the octets that are left stay.
pub record LacksRoom (role : Role) (config : Config role) (old new : Intake) : Type 0 where
  pub fed : FeedsOn role config old new
  pub some_left : 0 < length new.octets
