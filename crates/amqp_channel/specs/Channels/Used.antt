-- The channels in use, by number, in the words of the model: what isn't kept is Free. Read before: what is kept of one
-- (`Channel.ChannelView`).
use Rattle.std.specs.Prelude.{◌≡◌, ◌≢◌, ◌<◌, ◌^◌, Bool, true, false, nat_eq, ℕ, zero, suc, slice_get, Option, Some, None}
use Rattle.std.specs.declared.hash.FoldHasher.{FoldHasher}
use Rattle.std.specs.declared.hash.BuildHasherDefault.{BuildHasherDefault}
use Rattle.std.specs.HashMap.{get, values, HashMap}
use Rattle.indexmap.specs.IndexMap.{with_value_at}
use Rattle.amqp_model.specs.End.Amounts.{body_octets_on, header_octets_on}
use Rattle.amqp_model.specs.End.Asks.{is_free}
use Rattle.amqp_model.specs.End.Channels as model
use Rattle.amqp_model.specs.End.FrameVerdict.{is_gathering}
use Rattle.amqp_channel.specs.Channel.ChannelView.{content_on, channel_view, gathered_view, is_lent}
use Rattle.amqp_channel.specs.declared.channel.Channel.{Channel}

-- the channels that are kept, by number
abbrev pub Used : Type 0
Used = HashMap ℕ Channel (BuildHasherDefault FoldHasher)

-- what isn't kept is free
abbrev pub kept_at : Option Channel → model.Channel
kept_at None = model.Free
kept_at (Some channel) = channel_view channel

-- channel 0 is none
abbrev pub used_view : Used → ℕ → model.Channel
used_view used zero = model.Free
used_view used (suc n) = kept_at (get nat_eq used (suc n))

-- no number from 1 up to this one is free
abbrev pub NoneFreeBelow : Used → ℕ → Type 0
NoneFreeBelow used low = (j : ℕ) → suc j < low → is_free (used_view used (suc j)) ≡ false

-- no channel that is kept is Free: as many are kept as are in use
abbrev pub NoneKeptFree : Used → Type 0
NoneKeptFree used =
    (number : ℕ) (channel : Channel)
    → get nat_eq used number ≡ Some channel → is_free (channel_view channel) ≡ false

-- nor is one of another number
abbrev pub NoneElseFree : Used → (number : ℕ) → Type 0
NoneElseFree used number =
    (other : ℕ) (channel : Channel)
    → other ≢ number → get nat_eq used other ≡ Some channel → is_free (channel_view channel) ≡ false

-- a content is under way there whose octets are lent
abbrev pub is_lent_there : Option Channel → Bool
is_lent_there None = false
is_lent_there (Some channel) = is_lent channel

-- no channel that is kept has such a content
abbrev pub NoneLentIn : Used → Type 0
NoneLentIn used = (number : ℕ) → 0 < number → is_lent_there (get nat_eq used number) ≡ false

-- the channel at a place among those kept has no content under way; channel 0 is none
abbrev pub IsIdleAt : Used → (place : ℕ) → Type 0
IsIdleAt used place =
    (number : ℕ) (channel : Channel) → slice_get used.entries place ≡ Some (number, channel) → 0 < number
    → is_gathering (content_on (channel_view channel)) ≡ false

-- what stands at the place is kept as the number's
abbrev pub KeptAt : Used → (place number : ℕ) → Type 0
KeptAt used place number =
    (channel : Channel) → slice_get (values used) place ≡ Some channel → get nat_eq used number ≡ Some channel

-- and so is a channel that is put there
abbrev pub PutAt : Used → (place number : ℕ) → Type 0
PutAt used place number = (channel : Channel) → get nat_eq (with_value_at used place channel) number ≡ Some channel

-- what stands at the place is the channel of the number
abbrev pub HoldsAt : Used → (place number : ℕ) → Type 0
HoldsAt used place number =
    (channel : Channel) → slice_get (values used) place ≡ Some channel → used_view used number ≡ channel_view channel

-- a channel that is put at the place is then the channel of the number
abbrev pub WritesAt : Used → (place number : ℕ) → Type 0
WritesAt used place number =
    (channel : Channel) → used_view (with_value_at used place channel) number ≡ channel_view channel

-- and the channels of the other numbers stay
abbrev pub KeepsOthersAt : Used → (place number : ℕ) → Type 0
KeepsOthersAt used place number =
    (channel : Channel) (other : ℕ)
    → other ≢ number → used_view (with_value_at used place channel) other ≡ used_view used other

-- and what is kept of them is what was kept
abbrev pub KeepsEntriesAt : Used → (place number : ℕ) → Type 0
KeepsEntriesAt used place number =
    (channel : Channel) (other : ℕ)
    → other ≢ number → get nat_eq (with_value_at used place channel) other ≡ get nat_eq used other

-- this end has put a close of the channel
abbrev pub is_closing_at : model.Channel → Bool
is_closing_at model.Closing = true
is_closing_at channel = false

-- the channel is Open
abbrev pub is_open_at : model.Channel → Bool
is_open_at (model.Open life) = true
is_open_at channel = false

-- the number has this channel, and the others have what they had
pub record IsKeptAt (old : Used) (number : ℕ) (channel : Channel) (new : Used) : Type 0 where
  pub here : get nat_eq new number ≡ Some channel
  pub others : (other : ℕ) → other ≢ number → get nat_eq new other ≡ get nat_eq old other

-- the number has no channel, and the others have what they had
pub record IsTakenOut (old : Used) (number : ℕ) (new : Used) : Type 0 where
  pub here : get nat_eq new number ≡ None
  pub others : (other : ℕ) → other ≢ number → get nat_eq new other ≡ get nat_eq old other

-- the channels, of whose contents only what is gathered counts
abbrev pub gathered_there : Option Channel → model.Channel
gathered_there None = model.Free
gathered_there (Some channel) = gathered_view channel

-- by number
abbrev pub used_gathered : Used → ℕ → model.Channel
used_gathered used zero = model.Free
used_gathered used (suc n) = gathered_there (get nat_eq used (suc n))

-- how many octets are kept there of the header of the content under way
abbrev pub header_octets_at : Used → ℕ → ℕ
header_octets_at used number = header_octets_on (used_gathered used number)

-- and of its body
abbrev pub body_octets_at : Used → ℕ → ℕ
body_octets_at used number = body_octets_on (used_gathered used number)

-- a body is in memory, and its octets are counted in 64 bits
abbrev pub BodiesFit : Used → Type 0
BodiesFit used = (number : ℕ) → body_octets_at used number < 2 ^ 64
