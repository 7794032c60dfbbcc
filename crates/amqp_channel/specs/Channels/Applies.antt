-- What a frame that was judged does to the channels, where contents are gathered (`Applies`) and where they are lent
-- (`AppliesLent`). Read before: the channels by number (`ChannelsView`), and what a verdict leaves (`Verdict`).
use Rattle.std.specs.Global.{Global}
use Rattle.std.specs.Prelude.{◌≡◌, true, ℕ, Box, Option, Result, IfOk, IsOk, OnErr, OnOk}
use Rattle.amqp_method.specs.declared.contents.Content.{Content}
use Rattle.amqp_method.specs.declared.faults.OutOfMemory.{OutOfMemory}
use Rattle.amqp_model.specs.Lent.Alike.{AlikeChannels}
use Rattle.amqp_model.specs.Wire.Readings.{Reading}
use Rattle.amqp_channel.specs.Channels.ChannelsView.{channels_view, NoneLent, OnlyAt}
use Rattle.amqp_channel.specs.Contents.ContentView.{content_there}
use Rattle.amqp_channel.specs.Roles.{role_of}
use Rattle.amqp_channel.specs.Channels.Used.{is_closing_at}
use Rattle.amqp_channel.specs.Verdict.Passing.{Passes}
use Rattle.amqp_channel.specs.Verdict.VerdictView.{handed_out, left_by, told_on, whole_now, whole_of, Drops}
use Rattle.amqp_channel.specs.declared.channels.Channels.{Channels}
use Rattle.amqp_channel.specs.declared.side.Side.{Side}
use Rattle.amqp_channel.specs.declared.site.Site.{Site}
use Rattle.amqp_channel.specs.declared.verdict.Told.{Told}
use Rattle.amqp_channel.specs.declared.verdict.Verdict.{Verdict}

-- The channel is left as the verdict leaves it, and the content that the frame makes whole is answered.
pub record Applies (side : Side) (number : ℕ) (reading : Reading) (verdict : Verdict) (old : Channels)
    (result : Result (Option (Box Content Global)) OutOfMemory) (new : Channels) : Type 0 where
  -- The channel is left as the verdict leaves it.
  pub left : OnOk result (channels_view new number ≡ left_by (role_of side) reading verdict (channels_view old number))
  -- The answer is the content that the frame makes whole, if it makes one whole.
  pub content :
      IfOk result (λ content. content_there content ≡ handed_out (channels_view old number) reading verdict)
  -- Out of memory, the channel stays as it was.
  pub err : OnErr result (channels_view new number ≡ channels_view old number)
  -- Every other channel stays as it was.
  pub others : OnlyAt number (channels_view old) (channels_view new)
  -- What is dropped takes no memory.
  pub drops : is_closing_at (channels_view old number) ≡ true → Drops verdict → IsOk result
  -- No content is lent.
  pub gathers : NoneLent new

-- The same where contents are lent: of a content under way is kept how far it has come, and nothing is answered.
pub record AppliesLent {A : Type 0} (side : Side) (number : ℕ) (reading : Reading) (verdict : Verdict) (old : Channels)
    (result : Result A OutOfMemory) (new : Channels) : Type 0 where
  -- The channel is left alike to what the verdict leaves.
  pub left :
      OnOk result
      (AlikeChannels (left_by (role_of side) reading verdict (channels_view old number)) (channels_view new number))
  -- Out of memory, the channel stays as it was.
  pub err : OnErr result (channels_view new number ≡ channels_view old number)
  -- Every other channel stays as it was.
  pub others : OnlyAt number (channels_view old) (channels_view new)
  -- What is dropped takes no memory.
  pub drops : is_closing_at (channels_view old number) ≡ true → Drops verdict → IsOk result

-- What a frame does that is done with at once, where contents are lent: the rules let it through and owe it no reply, and
-- its channel is left alike to what that leaves.
pub record PassesLent (site : Site) (reading : Reading) (old : Channels) (said : Told) (new : Channels) : Type 0 where
  -- The rules let it through, and it tells of a message.
  pub passes : Passes site (channels_view old site.number) reading said
  -- The channel is left alike to what the frame leaves.
  pub left :
      AlikeChannels (told_on (role_of site.side) reading said (channels_view old site.number))
      (channels_view new site.number)
  -- Every other channel stays as it was.
  pub others : OnlyAt site.number (channels_view old) (channels_view new)

-- The same where contents are gathered: the content under way goes on, and the one that is whole is answered.
pub record PassesGathered (site : Site) (reading : Reading) (old : Channels) (said : Told)
    (whole : Option (Box Content Global)) (new : Channels) : Type 0 where
  -- The rules let it through, and it tells of a message.
  pub passes : Passes site (channels_view old site.number) reading said
  -- The channel is left as the frame leaves it.
  pub left :
      channels_view new site.number
      ≡ told_on (role_of site.side) reading said (channels_view old site.number)
  -- The content is the one that the frame makes whole, if it makes one whole.
  pub content : content_there whole ≡ whole_of said (whole_now (channels_view old site.number) reading)
  -- Every other channel stays as it was.
  pub others : OnlyAt site.number (channels_view old) (channels_view new)
