-- What an accepted ask adds to the lists of an end that is kept with its history.
use Rattle.std.specs.Prelude.{◌≡◌, ◌+◌, ◌-◌, ◌/◌, ◌≤◌, ◌*◌, ℕ, suc, List, replicate, length, Option, Some, None}
use Rattle.amqp_model.specs.End.Asks.{Ask, Send, CloseChannel, Close, Blocked, Unblocked, lowest_free}
use Rattle.amqp_model.specs.End.Channels.{Agreed, End}
use Rattle.amqp_model.specs.Wire.Contents.{room_in}
use Rattle.amqp_model.specs.End.Events.{Message, Plain, Whole}
use Rattle.amqp_model.specs.Wire.Items.{Item, FlowItem}
use Rattle.amqp_model.specs.Output.Outputs.{Output, output_octets}
use Rattle.amqp_model.specs.Stream.Traces.{IsPut, Noted, Other, Word, item_of_message}
use Rattle.amqp_model.specs.Stream.Traces as traces
use Rattle.amqp_core.specs.Traced.Notes.{noted_as}

-- the frames of the ask are on this channel
abbrev pub IsChannelOf : End → Ask → (channel : ℕ) → Type 0
IsChannelOf end Ask.Open channel = lowest_free end ≡ Some channel
IsChannelOf end (Send number message) channel = channel ≡ number
IsChannelOf end (Ask.Flow number active) channel = channel ≡ number
IsChannelOf end (CloseChannel number code text cause) channel = channel ≡ number
IsChannelOf end (Close code text cause) channel = channel ≡ 0
IsChannelOf end (Blocked reason) channel = channel ≡ 0
IsChannelOf end Unblocked channel = channel ≡ 0

-- the frame size is the agreed one
abbrev pub IsSizeOf : Option Agreed → (frame_max : ℕ) → Type 0
IsSizeOf None frame_max = ⊥
IsSizeOf (Some agreed) frame_max = agreed.frame_max ≡ frame_max

-- what its frames are to their channel
abbrev pub word_asked : Ask → Word
word_asked Ask.Open = traces.Open
word_asked (Ask.Flow number active) = traces.Flow
word_asked (CloseChannel number code text cause) = traces.Close
word_asked ask = Other

-- how many frames a message is put in, none longer than so many octets
abbrev pub frames_of_message : (max : ℕ) → Message → ℕ
frames_of_message max (Plain method) = 1
frames_of_message max (Whole content) = suc (suc ((length content.body + room_in max - 1) / room_in max))

-- and an ask
abbrev pub count_asked : (max : ℕ) → Ask → ℕ
count_asked max (Send number message) = frames_of_message max message
count_asked max ask = 1

-- the notes of its frames
abbrev pub notes_asked : (max channel : ℕ) → Ask → List Noted
notes_asked max channel ask = replicate (count_asked max ask) (noted_as IsPut channel (word_asked ask))

-- what an ask says
abbrev pub item_asked : Ask → Option Item
item_asked (Send number message) = Some (item_of_message message)
item_asked (Ask.Flow number active) = Some (FlowItem active)
item_asked ask = None

-- an output gets longer by so many frames at most
abbrev pub GrowsByFrames : (count max : ℕ) → (old new : Output) → Type 0
GrowsByFrames count max old new = length (output_octets new) ≤ length (output_octets old) + count * max
