-- What an end answers of its channels, in the words of its history: the state of a channel, the octets of a body under
-- way and the reply that is due.
use Rattle.std.specs.Prelude.{◌≡◌, ◌≢◌, ◌≤◌, false, true, ℕ, suc, List, length, None}
use Rattle.amqp_model.specs.Wire.Notes.{Role}
use Rattle.amqp_model.specs.History.States.{State}
use Rattle.amqp_model.specs.History.Lives.{state}
use Rattle.amqp_model.specs.Wire.Contents.{Payload, UnderWay, body_octets}
use Rattle.amqp_model.specs.Wire.Gathering.{Nothing, Gathers}
use Rattle.amqp_model.specs.History.Histories.{History, entries_on, payloads_taken}
use Rattle.amqp_model.specs.End.Channels.{Life, Open, Running, Closed, End}
use Rattle.amqp_model.specs.History.Negotiation.{Config}
use Rattle.amqp_model.specs.End.Asks.{channel_max}
use Rattle.amqp_model.specs.End.Answers.{channel_state, octets_gathered, reply_due}
use Rattle.amqp_model.specs.End.EndVerdict.{takes_octets}
use Rattle.amqp_model.specs.End.Machine.{StandsFor}
use Rattle.amqp_model.specs.Laws.EndLaws.{notes_on}

-- while the connection is not closed, the state of a channel up to the agreed maximum is that of its notes
abbrev pub StateIsOfNotes : (role : Role) → Config role → End → History → (n : ℕ) → Type 0
StateIsOfNotes role config end history n =
    StandsFor role config false end history → takes_octets end.phase ≡ true → suc n ≤ channel_max end.agreed
    → channel_state end (suc n) ≡ state role (notes_on (suc n) history)

-- The state of a channel is that of its notes, until the connection is closed.
abbrev pub EveryStateIsOfNotes : Type 0
EveryStateIsOfNotes =
    (role : Role) (config : Config role) (end : End) (history : History) (n : ℕ)
    → StateIsOfNotes role config end history n

-- Once the connection is closed every channel is Free.
abbrev pub ClosedIsFree : Type 0
ClosedIsFree =
    (end : End) (n : ℕ)
    → end.phase ≡ Closed → channel_state end n ≡ State.Free

-- the payloads that the end took on a channel, the newest first
abbrev pub taken_on : (channel : ℕ) → History → List Payload
taken_on channel history = payloads_taken (entries_on channel history)

-- while the connection is Running, of the content under way on an Open channel the octets of its body parts are counted
abbrev pub GatheredIsUnderWay : (role : Role) → Config role → End → History → (n : ℕ) → Life
    → (since : List Payload) → Type 0
GatheredIsUnderWay role config end history n life since =
    StandsFor role config false end history → end.phase ≡ Running → end.channels (suc n) ≡ Open life
    → UnderWay (taken_on (suc n) history) since
    → octets_gathered end (suc n) ≡ length (body_octets since)

-- The octets gathered are those of the body parts of the content under way.
abbrev pub AllGatheredIsUnderWay : Type 0
AllGatheredIsUnderWay =
    (role : Role) (config : Config role) (end : End) (history : History) (n : ℕ) (life : Life) (since : List Payload)
    → GatheredIsUnderWay role config end history n life since

-- where none is under way there are none
abbrev pub NoneIsGathered : (role : Role) → Config role → End → History → (n : ℕ) → Life → Type 0
NoneIsGathered role config end history n life =
    StandsFor role config false end history → end.phase ≡ Running → end.channels (suc n) ≡ Open life
    → Gathers (taken_on (suc n) history) Nothing → octets_gathered end (suc n) ≡ 0

-- Where no content is under way no octets are gathered.
abbrev pub NothingIsGatheredOfNone : Type 0
NothingIsGatheredOfNone =
    (role : Role) (config : Config role) (end : End) (history : History) (n : ℕ) (life : Life)
    → NoneIsGathered role config end history n life

-- No octets are gathered on a channel that is not Open, or where the connection is not Running.
abbrev pub OnlyOpenGathers : Type 0
OnlyOpenGathers =
    (end : End) (n : ℕ)
    → octets_gathered end n ≢ 0 → (life : Life) × (end.phase ≡ Running) × (end.channels n ≡ Open life)

-- a reply is due on an Open channel alone, while the connection is not closed
abbrev pub OnlyOpenIsDue : Type 0
OnlyOpenIsDue =
    (end : End) (n : ℕ)
    → reply_due end n ≢ None → (life : Life) × (takes_octets end.phase ≡ true)
    × (end.channels n ≡ Open life)
