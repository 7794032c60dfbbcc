-- What the frames that an end puts do to its channels: an open, a close, a flow, a message. Read before: the channels
-- by number (`ChannelsView`), and the channel that payloads leave (`Payloads`).
use Rattle.std.specs.Prelude.{◌≡◌, Bool, false, ℕ, List, Result, IsOk, OnErr, OnOk}
use Rattle.amqp_method.specs.Requests.{is_request}
use Rattle.amqp_method.specs.declared.faults.OutOfMemory.{OutOfMemory}
use Rattle.amqp_method.specs.declared.kinds.Kind.TheVariants as kinds
use Rattle.amqp_model.specs.End.Asks.{message_payloads}
use Rattle.amqp_model.specs.End.Closes.{Cause, close_for, flow_as, without_arguments}
use Rattle.amqp_model.specs.End.Events.{Message, method_of}
use Rattle.amqp_model.specs.End.Machine.{channel_after}
use Rattle.amqp_model.specs.History.Histories.{PutHere}
use Rattle.amqp_model.specs.Wire.Frame.{Frame}
use Rattle.amqp_model.specs.Wire.Methods.{Method}
use Rattle.amqp_model.specs.Wire.Notes.{Client}
use Rattle.amqp_model.specs.Wire.Readings.{Calls}
use Rattle.amqp_channel.specs.Channels.ChannelsView.{channels_view, NoneLent, OnlyAt}
use Rattle.amqp_channel.specs.Channels.Payloads.{after_payloads}
use Rattle.amqp_channel.specs.Roles.{role_of}
use Rattle.amqp_channel.specs.declared.channels.Channels.{Channels}
use Rattle.amqp_channel.specs.declared.site.Site.{Site}

-- An open that a client puts.
pub record PutsOpen {A : Type 0} (number : ℕ) (old : Channels) (result : Result A OutOfMemory)
    (new : Channels) : Type 0 where
  -- The channel is left as the open leaves it.
  pub at :
      OnOk result
      ((frame : Frame)
      → channels_view new number
      ≡ channel_after Client (PutHere (Calls (without_arguments kinds.ChannelOpen)) frame) (channels_view old number))
  -- Every other channel stays as it was.
  pub others : OnOk result (OnlyAt number (channels_view old) (channels_view new))
  -- Out of memory, all of them do.
  pub err : OnErr result ((other : ℕ) → channels_view new other ≡ channels_view old other)
  -- No content is lent by it.
  pub gathers : NoneLent old → NoneLent new

-- A close that an end puts.
pub record PutsClose (site : Site) (old new : Channels) : Type 0 where
  -- The channel is left as a close leaves it, with any code, text and cause.
  pub at :
      (code : ℕ) (text : List ℕ) (cause : Cause) (frame : Frame)
      → channels_view new site.number
      ≡ channel_after (role_of site.side) (PutHere (Calls (close_for kinds.ChannelClose code text cause)) frame)
      (channels_view old site.number)
  -- Every other channel stays as it was.
  pub others : OnlyAt site.number (channels_view old) (channels_view new)
  -- No content is lent by it.
  pub gathers : NoneLent old → NoneLent new

-- A flow that an end puts.
pub record PutsFlow (site : Site) (active : Bool) (old new : Channels) : Type 0 where
  -- The channel is left as the flow leaves it.
  pub at :
      (frame : Frame)
      → channels_view new site.number
      ≡ channel_after (role_of site.side) (PutHere (Calls (flow_as kinds.ChannelFlow active)) frame)
      (channels_view old site.number)
  -- Every other channel stays as it was.
  pub others : OnlyAt site.number (channels_view old) (channels_view new)
  -- No content is lent by it.
  pub gathers : NoneLent old → NoneLent new

-- A message with this method that an end puts.
pub record PutsMessage {A : Type 0} (site : Site) (method : Method) (old : Channels) (result : Result A OutOfMemory)
    (new : Channels) : Type 0 where
  -- The channel is left as the frames of such a message leave it, whatever their size is.
  pub at :
      OnOk result
      ((frame_max : ℕ) (message : Message) → method_of message ≡ method
      → channels_view new site.number
      ≡ after_payloads (role_of site.side) site.number (message_payloads frame_max message)
      (channels_view old site.number))
  -- Out of memory, the channel stays as it was.
  pub err : OnErr result (channels_view new site.number ≡ channels_view old site.number)
  -- Only a request wants memory.
  pub no_room : is_request method ≡ false → IsOk result
  -- Every other channel stays as it was.
  pub others : OnlyAt site.number (channels_view old) (channels_view new)
  -- No content is lent by it.
  pub gathers : NoneLent old → NoneLent new
