-- What the code keeps of the channels of a connection, in the words of the model: what callers see of `Channels`.
-- Read before: the channels in use (`Used`).
use Rattle.std.specs.Prelude.{◌≡◌, ◌≢◌, false, ℕ}
use Rattle.amqp_model.specs.End.Channels as model
use Rattle.amqp_model.specs.End.FrameVerdict.{is_gathering}
use Rattle.amqp_channel.specs.Channel.ChannelView.{content_on}
use Rattle.amqp_channel.specs.Channels.Used.{used_gathered, used_view, NoneLentIn}
use Rattle.amqp_channel.specs.declared.channels.Channels.{Channels}

-- the channels, by number
abbrev pub channels_view : Channels → ℕ → model.Channel
channels_view channels = used_view channels.used

-- the channels, of whose contents only what is gathered counts
abbrev pub channels_gathered : Channels → ℕ → model.Channel
channels_gathered channels = used_gathered channels.used

-- all channels but this one are as they were
abbrev pub OnlyAt : ℕ → (old new : ℕ → model.Channel) → Type 0
OnlyAt number old new = (other : ℕ) → other ≢ number → new other ≡ old other

-- no channel has a content under way whose octets are lent
abbrev pub NoneLent : Channels → Type 0
NoneLent channels = NoneLentIn channels.used

-- no channel has a content under way
abbrev pub NoneUnderWay : Channels → Type 0
NoneUnderWay channels = (number : ℕ) → is_gathering (content_on (channels_view channels number)) ≡ false
