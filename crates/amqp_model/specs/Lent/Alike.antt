-- Ends that are alike: they keep the same but for the contents under way, which are compared by `streamed`. An end that
-- lends the octets of a content as they come keeps no more of it, so it is alike to one that gathers whole contents.
use Rattle.std.specs.Prelude.{◌≡◌, Bool, true, false, ℕ, List, Option, Some, None}
use Rattle.amqp_model.specs.Wire.Methods.{Method, Properties}
use Rattle.amqp_model.specs.Wire.Readings.{Reading, Calls, HeaderOf, BodyOf}
use Rattle.amqp_model.specs.Lent.Streaming.{streamed}
use Rattle.amqp_model.specs.End.Channels.{Life, Channel, Free, Opening, Closing, Open, End}
use Rattle.amqp_model.specs.End.Closes.{Owed}
use Rattle.amqp_model.specs.End.Events.{Event, Told, Plain, Whole, Fault, FrameVerdict, Proceeds, RefusesContent}
use Rattle.amqp_model.specs.End.Events.{Faults, event_channel}
use Rattle.amqp_model.specs.Stream.Endpoint.{Endpoint, Outcome, Unfinished, Finished, Found, Feeding}

-- What an end keeps.

-- lives that differ in no more than what is known of the content under way
pub record AlikeLives (one other : Life) : Type 0 where
  pub content : streamed one.content ≡ streamed other.content
  pub paused : one.paused ≡ other.paused
  pub awaits : one.awaits ≡ other.awaits
  pub requests : one.requests ≡ other.requests

-- channels in the same state, with alike lives
abbrev pub AlikeChannels : Channel → Channel → Type 0
AlikeChannels Free Free = Unit {0}
AlikeChannels Opening Opening = Unit {0}
AlikeChannels Closing Closing = Unit {0}
AlikeChannels (Open one) (Open other) = AlikeLives one other
AlikeChannels one other = ⊥

-- ends in the same phase, with the same agreed and with alike channels
pub record AlikeEnds (one other : End) : Type 0 where
  pub phase : one.phase ≡ other.phase
  pub agreed : one.agreed ≡ other.agreed
  pub channels : (number : ℕ) → AlikeChannels (one.channels number) (other.channels number)

-- alike ends with the same unfinished octets and the same output
pub record AlikeEndpoints (one other : Endpoint) : Type 0 where
  pub end : AlikeEnds one.end other.end
  pub unfinished : one.unfinished ≡ other.unfinished
  pub output : one.output ≡ other.output

-- What an end reports.

-- what an event says, but for the content that it tells
pub data EventTelling : Type 0 where
  Tells : Event → EventTelling
  TellsWhole : (channel : ℕ) → EventTelling

abbrev telling : Event → EventTelling
telling (Told channel (Whole content)) = TellsWhole channel
telling event = Tells event

abbrev pub maybe_telling : Option Event → Option EventTelling
maybe_telling (Some event) = Some (telling event)
maybe_telling None = None

-- what a verdict says, but for that content
pub data VerdictTelling : Type 0 where
  Proceeding : Option EventTelling → List Owed → VerdictTelling
  Refusing : VerdictTelling
  Faulting : Fault → VerdictTelling

abbrev pub verdict_telling : FrameVerdict → VerdictTelling
verdict_telling (Proceeds event owed) = Proceeding (maybe_telling event) owed
verdict_telling RefusesContent = Refusing
verdict_telling (Faults fault) = Faulting fault

-- what comes of octets, but for that content
pub data OutcomeTelling : Type 0 where
  NothingYet : OutcomeTelling
  Came : Option EventTelling → OutcomeTelling
  Failing : Fault → OutcomeTelling

abbrev pub outcome_telling : Outcome → OutcomeTelling
outcome_telling Unfinished = NothingYet
outcome_telling (Finished event) = Came (maybe_telling event)
outcome_telling (Found fault) = Failing fault

-- the same octets were taken, with the same outcome but for the content told, and alike endpoints are left
pub record AlikeFeedings (one other : Feeding) : Type 0 where
  pub endpoint : AlikeEndpoints one.endpoint other.endpoint
  pub taken : one.taken ≡ other.taken
  pub outcome : outcome_telling one.outcome ≡ outcome_telling other.outcome

-- What an end tells that lends: each frame of a message as it comes.

-- A method without content; the method that begins a content; its header, and whether the content is whole with it; a
-- part of its body, and whether it is the last; and every other event as it is.
pub data LentEvent : Type 0 where
  WithoutContent : (channel : ℕ) → Method → LentEvent
  Begins : (channel : ℕ) → Method → LentEvent
  Heads : (channel size : ℕ) → Properties → (whole : Bool) → LentEvent
  Part : (channel : ℕ) → (octets : List ℕ) → (whole : Bool) → LentEvent
  Other : Event → LentEvent

-- the channel that it is about, or 0 where it is about the connection
abbrev pub lent_channel : LentEvent → ℕ
lent_channel (WithoutContent channel method) = channel
lent_channel (Begins channel method) = channel
lent_channel (Heads channel size properties whole) = channel
lent_channel (Part channel octets whole) = channel
lent_channel (Other event) = event_channel event

-- a frame that is part of a message: what is lent of it, and whether a content is whole with it
abbrev pub part_lent : (number : ℕ) → Reading → (whole : Bool) → Option LentEvent
part_lent number (Calls method) whole = Some (Begins number method)
part_lent number (HeaderOf size properties) whole = Some (Heads number size properties whole)
part_lent number (BodyOf octets) whole = Some (Part number octets whole)
part_lent number reading whole = None

-- What is lent of a frame that says this, where so much is told of it: a content's frames tell nothing but the last,
-- which tells the whole.
abbrev pub lent : (number : ℕ) → Reading → Option EventTelling → Option LentEvent
lent number reading None = part_lent number reading false
lent number reading (Some (TellsWhole channel)) = part_lent number reading true
lent number reading (Some (Tells (Told channel (Plain method)))) = Some (WithoutContent channel method)
lent number reading (Some (Tells event)) = Some (Other event)
