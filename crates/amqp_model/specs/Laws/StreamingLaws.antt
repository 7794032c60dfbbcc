-- What holds of contents that are lent, of ends that are alike, and of what an end tells that lends: the statements of
-- the public laws.
use Rattle.std.specs.Prelude.{◌≡◌, ℕ, List, ◌++◌, length, Option, Some, All}
use Rattle.amqp_model.specs.Wire.Frame.{Frame}
use Rattle.amqp_model.specs.Wire.Notes.{Role}
use Rattle.amqp_model.specs.Wire.Contents.{Payload, Content}
use Rattle.amqp_model.specs.Wire.Gathering.{Gathering, Completes, Keeps, step, remains, gathering, kept}
use Rattle.amqp_model.specs.Lent.Streaming.{Streaming, stream_step, stream_remains, streaming, came, octets_of}
use Rattle.amqp_model.specs.Lent.Streaming.{streamed, streamed_step, gathered_as}
use Rattle.amqp_model.specs.Wire.Readings.{Reading, payload_of}
use Rattle.amqp_model.specs.History.Histories.{ChannelEntry, History}
use Rattle.amqp_model.specs.End.Channels.{Life, Channel, Open, End}
use Rattle.amqp_model.specs.History.Negotiation.{Config}
use Rattle.amqp_model.specs.End.Closes.{Owed}
use Rattle.amqp_model.specs.End.Events.{Event, Told, Whole, Proceeds}
use Rattle.amqp_model.specs.End.FrameVerdict.{Facts, verdict_on, methods_put}
use Rattle.amqp_model.specs.End.Asks.{Ask, ask_verdict}
use Rattle.amqp_model.specs.End.Answers.{channel_state, reply_due}
use Rattle.amqp_model.specs.End.EndVerdict.{facts_at}
use Rattle.amqp_model.specs.End.Machine.{end_after, end_after_put, end_after_taken, taken_verdict}
use Rattle.amqp_model.specs.End.Fitting.{ConfigWrites}
use Rattle.amqp_model.specs.Stream.Endpoint.{Endpoint, Feeding, after_feed, after_ask, after_wrote}
use Rattle.amqp_model.specs.Laws.OctetLaws.{IsOctet, EndpointStandsFor, Follows}
use Rattle.amqp_model.specs.Lent.Alike.{AlikeEnds, AlikeEndpoints, AlikeFeedings, maybe_telling, verdict_telling}
use Rattle.amqp_model.specs.Lent.Alike.{LentEvent, lent}

-- Contents.

-- a payload does the same to what is kept of a content, whether its octets are gathered or lent
abbrev pub StepsAlike : Type 0
StepsAlike =
    (gathering : Gathering) (payload : Payload)
    → stream_step (streamed gathering) payload ≡ streamed_step (step gathering payload)

-- After a payload, what remains of a content is the same, whether its octets are gathered or lent.
abbrev pub RemainsAlike : Type 0
RemainsAlike =
    (gathering : Gathering) (payload : Payload)
    → stream_remains (stream_step (streamed gathering) payload) payload
    ≡ streamed (remains (step gathering payload) payload)

-- After any payloads as much is known of the content under way, whether its octets are gathered or lent.
abbrev pub GathersAlike : Type 0
GathersAlike = (taken : List Payload) → streaming taken ≡ streamed (gathering taken)

-- as many octets have come as are gathered
abbrev pub CameIsKept : Type 0
CameIsKept = (gathering : Gathering) → came (streamed gathering) ≡ length (kept gathering)

-- a content that is whole has the octets that came, followed by those of the last part
abbrev pub WholeIsCame : Type 0
WholeIsCame =
    (gathering : Gathering) (payload : Payload) (content : Content)
    → step gathering payload ≡ Completes content → content.body ≡ kept gathering ++ octets_of payload

-- A content that goes on has kept the octets that it had, followed by those of this part.
abbrev pub KeptIsCame : Type 0
KeptIsCame =
    (gathering next : Gathering) (payload : Payload)
    → step gathering payload ≡ Keeps next → kept next ≡ kept gathering ++ octets_of payload

-- For whatever is known of a content under way there is a content of which just that is known.
abbrev pub EachIsGathered : Type 0
EachIsGathered = (streaming : Streaming) → streamed (gathered_as streaming) ≡ streaming

-- Alike ends.

-- an endpoint is alike to itself; alike ones are so both ways; and those alike to one are alike
pub record AlikeIsEquality : Type 0 where
  pub itself : (endpoint : Endpoint) → AlikeEndpoints endpoint endpoint
  pub both_ways : (one other : Endpoint) → AlikeEndpoints one other → AlikeEndpoints other one
  pub onwards :
      (one other third : Endpoint) → AlikeEndpoints one other → AlikeEndpoints other third
      → AlikeEndpoints one third

-- alike ends have the same verdict on a frame, but for the content that it tells
abbrev pub VerdictsAlike : Type 0
VerdictsAlike =
    (role : Role) (config : Config role) (one other : End) (number : ℕ) (reading : Reading) → AlikeEnds one other
    → verdict_telling (taken_verdict config one number reading)
    ≡ verdict_telling (taken_verdict config other number reading)

-- On a frame that they take, alike ends put the same methods.
abbrev pub PutsAlike : Type 0
PutsAlike =
    (role : Role) (config : Config role) (one other : End) (number : ℕ) (reading : Reading) → AlikeEnds one other
    → methods_put (facts_at config one number) (taken_verdict config one number reading)
    ≡ methods_put (facts_at config other number) (taken_verdict config other number reading)

-- Alike ends stay alike after each entry.
abbrev pub EntriesLeaveAlike : Type 0
EntriesLeaveAlike =
    (role : Role) (config : Config role) (one other : End) (number : ℕ) (entry : ChannelEntry) → AlikeEnds one other
    → AlikeEnds (end_after role config number entry one) (end_after role config number entry other)

-- Alike ends stay alike after the frames of an ask are put.
abbrev pub PuttingLeavesAlike : Type 0
PuttingLeavesAlike =
    (role : Role) (config : Config role) (one other : End) (frames : List Frame) → AlikeEnds one other
    → AlikeEnds (end_after_put role config frames one) (end_after_put role config frames other)

-- Alike ends stay alike after a frame that they take, with what its verdict puts.
abbrev pub TakingLeavesAlike : Type 0
TakingLeavesAlike =
    (role : Role) (config : Config role) (one other : End) (reading : Reading) (frame : Frame) → AlikeEnds one other
    → AlikeEnds (end_after_taken role config one reading frame) (end_after_taken role config other reading frame)

-- A piece fed to alike endpoints comes to the same, but for the content told, and leaves them alike.
abbrev pub FeedsAlike : Type 0
FeedsAlike =
    (role : Role) (config : Config role) (one other : Endpoint) (piece : List ℕ) → AlikeEndpoints one other
    → AlikeFeedings (after_feed role config one piece) (after_feed role config other piece)

-- Alike ends answer an ask alike.
abbrev pub AsksAlike : Type 0
AsksAlike =
    (role : Role) (one other : End) (ask : Ask)
    → AlikeEnds one other → ask_verdict role one ask ≡ ask_verdict role other ask

-- Alike endpoints stay alike after an ask.
abbrev pub AskingLeavesAlike : Type 0
AskingLeavesAlike =
    (role : Role) (config : Config role) (one other : Endpoint) (ask : Ask) → AlikeEndpoints one other
    → AlikeEndpoints (after_ask role config one ask) (after_ask role config other ask)

-- Alike endpoints stay alike after a write.
abbrev pub WritingLeavesAlike : Type 0
WritingLeavesAlike =
    (n : ℕ) (one other : Endpoint) → AlikeEndpoints one other
    → AlikeEndpoints (after_wrote n one) (after_wrote n other)

-- a channel is in the same state, and the same reply is due on it
pub record SameOnChannel (one other : End) (number : ℕ) : Type 0 where
  pub state : channel_state one number ≡ channel_state other number
  pub request : reply_due one number ≡ reply_due other number

-- Alike ends answer the same of each channel: its state, and the reply that is due on it.
abbrev pub AnswersAlike : Type 0
AnswersAlike = (one other : End) (number : ℕ) → AlikeEnds one other → SameOnChannel one other number

-- What an end stands for that lends.

-- it is alike to one that gathers whole contents and stands for the history
pub record StreamStandsFor (role : Role) (config : Config role) (endpoint : Endpoint)
    (history : History) (fed written : List ℕ) : Type 0 where
  pub gathers : Endpoint
  pub stands : EndpointStandsFor role config gathers history fed written
  pub alike : AlikeEndpoints gathers endpoint

-- A piece is fed to it. What an end that gathers tells of the piece it tells too, but for a content, and the history
-- that follows is that one's.
pub record StreamFollows (role : Role) (config : Config role) (endpoint : Endpoint)
    (history : History) (fed written piece : List ℕ) (new : Feeding) : Type 0 where
  pub gathers : Endpoint
  pub stands : EndpointStandsFor role config gathers history fed written
  pub follows : Follows role config gathers history fed written piece (after_feed role config gathers piece)
  pub alike : AlikeFeedings (after_feed role config gathers piece) new

-- An end that lends tells of a piece what one that gathers tells, but for a content, and stands for the history that
-- follows.
abbrev pub StreamFeedFollows : Type 0
StreamFeedFollows =
    (role : Role) (config : Config role) (endpoint : Endpoint) (history : History) (fed written piece : List ℕ)
    → StreamStandsFor role config endpoint history fed written → All IsOctet piece → ConfigWrites config
    → StreamFollows role config endpoint history fed written piece (after_feed role config endpoint piece)

-- What is lent.

-- this is lent of a verdict that goes on, and it is something: there is one event a frame
pub record LendsOne (number : ℕ) (reading : Reading) (event : Option Event) : Type 0 where
  pub told : LentEvent
  pub lent_is : lent number reading (maybe_telling event) ≡ Some told

-- Each verdict that goes on lends one event of its frame.
abbrev pub EachFrameLends : Type 0
EachFrameLends =
    (role : Role) (facts : Facts role) (reading : Reading) (event : Option Event) (owed : List Owed)
    → verdict_on facts reading ≡ Proceeds event owed → LendsOne facts.number reading event

-- The frame is the last of this content, which was under way on the channel: its body is what had come, with the octets
-- that are lent of the frame.
pub record LendsLast (reading : Reading) (channel : Channel) (content : Content) : Type 0 where
  pub life : Life
  pub was_open : channel ≡ Open life
  pub whole : step life.content (payload_of reading) ≡ Completes content
  pub body : content.body ≡ kept life.content ++ octets_of (payload_of reading)

-- Where a verdict tells a whole content, the frame was the last of it: what had come before and what the frame lends
-- are its body.
abbrev pub LastIsWhole : Type 0
LastIsWhole =
    (role : Role) (facts : Facts role) (reading : Reading) (number : ℕ) (content : Content) (owed : List Owed)
    → verdict_on facts reading ≡ Proceeds (Some (Told number (Whole content))) owed
    → LendsLast reading facts.channel content
