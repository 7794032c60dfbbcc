-- How much an end keeps, at most: of each channel that is Open, a part of one body and the requests without a reply.
-- AMQP 0-9-1 has no such bounds; they are this profile's.
use Rattle.std.specs.Prelude.{◌≡◌, ◌<◌, ◌≤◌, ◌⊎◌, true, false, ℕ, List, length}
use Rattle.amqp_model.specs.Wire.Frame.{Frame}
use Rattle.amqp_model.specs.Wire.Notes.{Role, Client, Server}
use Rattle.amqp_model.specs.History.States.{State}
use Rattle.amqp_model.specs.Wire.Methods.{ReadsBack}
use Rattle.amqp_model.specs.Wire.Gathering.{Gathering, Nothing, HeaderDue, BodyDue}
use Rattle.amqp_model.specs.Wire.Readings.{reading}
use Rattle.amqp_model.specs.History.Histories.{History}
use Rattle.amqp_model.specs.End.Channels.{Life, Channel, Open, End}
use Rattle.amqp_model.specs.History.Negotiation.{Config}
use Rattle.amqp_model.specs.End.Answers.{channel_state, octets_gathered}
use Rattle.amqp_model.specs.End.Asks.{Ask, channel_max, is_made, method_asked, Puts, ask_verdict}
use Rattle.amqp_model.specs.End.EndVerdict.{end_verdict, goes_on}
use Rattle.amqp_model.specs.End.ReadingBack.{WritesReadBack}
use Rattle.amqp_model.specs.End.LawfulHistories.{Lawful}
use Rattle.amqp_model.specs.End.Machine.{new_end, end_after_taken, end_after_put, StandsFor}

-- of a body under way fewer octets are kept than it has, and it has no more than an end takes
abbrev pub KeepsPart : (max_body : ℕ) → Gathering → Type 0
KeepsPart max_body Nothing = Unit {0}
KeepsPart max_body (HeaderDue method) = Unit {0}
KeepsPart max_body (BodyDue method size properties body) = (length body < size) × (size ≤ max_body)

-- a client waits for one reply at a time, and a server keeps so many requests
abbrev pub most_requests : Role → ℕ
most_requests Client = 1
most_requests Server = 1024

pub record LifeIsWithin (role : Role) (max_body : ℕ) (life : Life) : Type 0 where
  pub content : KeepsPart max_body life.content
  pub requests : length life.requests ≤ most_requests role

abbrev pub ChannelIsWithin : Role → (max_body : ℕ) → Channel → Type 0
ChannelIsWithin role max_body (Open life) = LifeIsWithin role max_body life
ChannelIsWithin role max_body channel = Unit {0}

-- each Open channel of the end is within the bounds
abbrev pub EndIsWithin : (role : Role) → Config role → End → Type 0
EndIsWithin role config end = (n : ℕ) → ChannelIsWithin role config.max_body (end.channels n)

-- A new end is within the bounds.
abbrev pub NewIsWithin : Type 0
NewIsWithin =
    (role : Role) (config : Config role)
    → EndIsWithin role config (new_end role)

-- and they stay so by each frame that it takes and goes on after, and by each ask that it accepts
abbrev pub FrameStaysWithin : (role : Role) → Config role → End → Frame → Type 0
FrameStaysWithin role config end frame =
    EndIsWithin role config end → goes_on (end_verdict config end frame) ≡ true
    → EndIsWithin role config (end_after_taken role config end (reading frame) frame)

-- An end stays within its bounds by each frame after which it goes on.
abbrev pub EveryFrameStaysWithin : Type 0
EveryFrameStaysWithin =
    (role : Role) (config : Config role) (end : End) (frame : Frame)
    → FrameStaysWithin role config end frame

abbrev pub AskStaysWithin : (role : Role) → Config role → End → Ask → List Frame → Type 0
AskStaysWithin role config end ask frames =
    EndIsWithin role config end → ReadsBack (method_asked ask) → is_made ask ≡ true
    → ask_verdict role end ask ≡ Puts frames
    → EndIsWithin role config (end_after_put role config frames end)

-- An end stays within its bounds by each ask that it accepts.
abbrev pub EveryAskStaysWithin : Type 0
EveryAskStaysWithin =
    (role : Role) (config : Config role) (end : End) (ask : Ask) (frames : List Frame)
    → AskStaysWithin role config end ask frames

-- Every end that stands for a lawful history is within the bounds.
abbrev pub StandsWithin : Type 0
StandsWithin =
    (role : Role) (config : Config role) (end : End) (history : History)
    → WritesReadBack role config → Lawful role config false history → StandsFor role config false end history
    → EndIsWithin role config end

-- what is kept of a body, as it is answered, is less than the greatest body, or nothing
abbrev pub GatheredIsWithin : (role : Role) → Config role → End → (n : ℕ) → Type 0
GatheredIsWithin role config end n = EndIsWithin role config end → octets_gathered end n ≤ config.max_body

-- What an end within its bounds has gathered is no more than the greatest body.
abbrev pub AllGatheredIsWithin : Type 0
AllGatheredIsWithin = (role : Role) (config : Config role) (end : End) (n : ℕ) → GatheredIsWithin role config end n

-- channel 0, and the channels above the agreed maximum, are Free
abbrev pub OthersAreFree : End → (n : ℕ) → Type 0
OthersAreFree end n = (n ≡ 0) ⊎ (channel_max end.agreed < n) → channel_state end n ≡ State.Free

-- Channel 0, and the channels above the agreed maximum, are Free.
abbrev pub AllOthersAreFree : Type 0
AllOthersAreFree = (end : End) (n : ℕ) → OthersAreFree end n
