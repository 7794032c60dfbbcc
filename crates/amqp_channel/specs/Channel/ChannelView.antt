-- What the code keeps of a channel stands for this in the model. A content that is lent stands for one of which as
-- much is known: no argument of its method, no property, and as many octets as have come. Read before: `LifeView`.
use Rattle.std.specs.Prelude.{◌≡◌, Bool, true, false}
use Rattle.amqp_model.specs.End.Channels as model
use Rattle.amqp_model.specs.Lent.Streaming.{AwaitsBody, AwaitsHeader, gathered_as}
use Rattle.amqp_model.specs.Wire.Gathering.{Gathering, Nothing}
use Rattle.amqp_channel.specs.Channel.LifeView.{life_on, life_view, IsIdle}
use Rattle.amqp_channel.specs.Contents.GatheringView.{IsRead}
use Rattle.amqp_channel.specs.declared.channel.Channel.{Channel}
use Rattle.amqp_channel.specs.declared.channel.Channel.TheVariants.{Free, Opening, Closing, Open, LentHeader, LentBody}

-- what is kept of a channel
abbrev pub channel_view : Channel → model.Channel
channel_view Free = model.Free
channel_view Opening = model.Opening
channel_view Closing = model.Closing
channel_view (Open life) = model.Open (life_view life)
channel_view (LentHeader kind standing) = model.Open (life_on (gathered_as (AwaitsHeader kind)) standing)
channel_view (LentBody kind size came standing) =
    model.Open (life_on (gathered_as (AwaitsBody kind size came)) standing)

-- the channel, of whose content only what is gathered counts: of one that is lent nothing is kept
abbrev pub gathered_view : Channel → model.Channel
gathered_view (Open life) = model.Open (life_view life)
gathered_view channel = model.Free

-- the channel is Free; Open
abbrev pub IsFree : Channel → Type 0
IsFree channel = channel_view channel ≡ model.Free

abbrev pub IsOpen : Channel → Type 0
IsOpen Free = ⊥
IsOpen Opening = ⊥
IsOpen Closing = ⊥
IsOpen (Open life) = Unit {0}
IsOpen (LentHeader kind standing) = Unit {0}
IsOpen (LentBody kind size came standing) = Unit {0}

-- no content is under way on a channel that is Open
abbrev pub IsIdleOpen : Channel → Type 0
IsIdleOpen (Open life) = IsIdle life
IsIdleOpen channel = ⊥

-- a content is under way there that is gathered, and its header was read
abbrev pub IsReadOpen : Channel → Type 0
IsReadOpen (Open life) = IsRead life.content
IsReadOpen channel = ⊥

-- a content is under way whose octets are lent
abbrev pub is_lent : Channel → Bool
is_lent (LentHeader kind standing) = true
is_lent (LentBody kind size came standing) = true
is_lent channel = false

-- the content under way on a channel that is Open
abbrev pub content_on : model.Channel → Gathering
content_on (model.Open life) = life.content
content_on channel = Nothing

-- the channel with this content under way, if it is Open
abbrev pub contained : Gathering → model.Channel → model.Channel
contained content (model.Open life) =
    model.Open (record { content = content; paused = life.paused; awaits = life.awaits; requests = life.requests })
contained content channel = channel

-- the channel is Open, and a content under way is gathered
abbrev pub IsGathered : Channel → Type 0
IsGathered (Open life) = Unit {0}
IsGathered channel = ⊥
