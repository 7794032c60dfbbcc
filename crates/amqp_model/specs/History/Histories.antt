-- What one end of a connection put and took.
--
-- A history is a list of whole frames, the newest first: what stands before an entry is the list after it. An end
-- keeps no such list; all that it shows is read off it by counting.
use Rattle.std.specs.Prelude.{Bool, cond, ◌&&◌, ℕ, ◌==◌, List, [], ◌∷◌, ◌++◌, map}
use Rattle.amqp_method.specs.declared.kinds.Kind.TheVariants as kinds
use Rattle.amqp_model.specs.Wire.Frame.{Frame}
use Rattle.amqp_model.specs.Wire.Notes.{Note}
use Rattle.amqp_model.specs.History.Lives.{has_left}
use Rattle.amqp_model.specs.Wire.Contents.{Payload}
use Rattle.amqp_model.specs.Wire.Gathering.{Gathering, gathering}
use Rattle.amqp_model.specs.Wire.Readings.{Reading, reading, is_call, kind_of, payload_of}

-- a frame that the end appended to its output, or that it took as a whole
-- a frame that an end put, or one that it took
pub data Entry : Type 0 where
  Put Took : Frame → Entry

abbrev pub channel_of : Entry → ℕ
channel_of (Put frame) = frame.channel
channel_of (Took frame) = frame.channel

-- what an end put and took, the newest first
abbrev pub History : Type 0
History = List Entry

-- An entry as its channel sees it, with what the frame says; and the mark where the end put connection.close, which
-- stands on every channel above 0.
pub data ChannelEntry : Type 0 where
  PutHere TookHere : Reading → Frame → ChannelEntry
  LeftHere : ChannelEntry

-- connection.close, on channel 0
abbrev pub closes_connection : Frame → Bool
closes_connection frame = (frame.channel == 0) && is_call kinds.ConnectionClose (reading frame)

-- what a channel sees of an entry
abbrev pub seen_on : (channel : ℕ) → Entry → List ChannelEntry
seen_on channel (Put frame) =
    cond (frame.channel == channel) (PutHere (reading frame) frame ∷ [])
    (cond (closes_connection frame) (LeftHere ∷ []) [])
seen_on channel (Took frame) = cond (frame.channel == channel) (TookHere (reading frame) frame ∷ []) []

-- the entries of one channel
abbrev pub entries_on : (channel : ℕ) → History → List ChannelEntry
entries_on channel [] = []
entries_on channel (entry ∷ before) = seen_on channel entry ++ entries_on channel before

-- the note of an entry, in the words of the lives of a channel
abbrev pub note_of : ChannelEntry → Note
note_of (PutHere reading frame) = Note.Put (kind_of reading) frame
note_of (TookHere reading frame) = Note.Took (kind_of reading) frame
note_of LeftHere = Note.Leaving

abbrev pub notes : List ChannelEntry → List Note
notes entries = map note_of entries

-- the payloads taken, the newest first
abbrev pub payloads_taken : List ChannelEntry → List Payload
payloads_taken [] = []
payloads_taken (TookHere reading frame ∷ before) = payload_of reading ∷ payloads_taken before
payloads_taken (_ ∷ before) = payloads_taken before

-- the content under way: no life begins in the midst of one, since the method that opens a channel carries none
abbrev pub under_way : List ChannelEntry → Gathering
under_way entries = gathering (payloads_taken entries)

-- the entries before the end put connection.close, all of them where it did not
abbrev pub entries_before_leaving : List ChannelEntry → List ChannelEntry
entries_before_leaving [] = []
entries_before_leaving (LeftHere ∷ before) = entries_before_leaving before
entries_before_leaving (entry ∷ before) =
    cond (has_left (notes before)) (entries_before_leaving before) (entry ∷ before)
