-- What octets carry of the channels from one end to the other: the statements that the public laws carry.
use Rattle.std.specs.Prelude.{◌≡◌, ℕ, List, ◌++◌, map}
use Rattle.amqp_frame.specs.Frame.{Frame, octets, Fits}
use Rattle.amqp_model.specs.Wire.Notes.{Role, other_end}
use Rattle.amqp_model.specs.Pair.Carried.{Carried, Carry, put_by, taken_by}
use Rattle.amqp_model.specs.Output.Prefixes.{IsPrefixOf}
use Rattle.amqp_model.specs.Output.Arrangement.{on}
use Rattle.amqp_model.specs.Output.Departures.{PutAs}
use Rattle.amqp_model.specs.Wire.Readings.{reading, kind_of}
use Rattle.amqp_model.specs.History.Histories.{History}
use Rattle.amqp_model.specs.Laws.EndLaws.{notes_on}
use Rattle.amqp_model.specs.Pair.Pairs.{ComesNext}
use Rattle.amqp_model.specs.Stream.Octets.{frames_taken, frames_put, opening_read, opening_written, FedAs}

-- a frame, with what it is to its channel
abbrev pub as_carried : Frame → Carried
as_carried frame = Carry (kind_of (reading frame)) frame

-- the frame alone
abbrev pub frame_carried : Carried → Frame
frame_carried (Carry kind frame) = frame

-- the frames that the notes of a channel put and take are those that the history does, in order
abbrev pub FramesAreOfChannel : Type 0
FramesAreOfChannel =
    (channel : ℕ) (history : History)
    → (on channel (frames_put history) ≡ map frame_carried (put_by (notes_on channel history)))
    × (on channel (frames_taken history) ≡ map frame_carried (taken_by (notes_on channel history)))

-- Each note of a channel says what its frame is to the channel.
abbrev pub NotesAreOfFrames : Type 0
NotesAreOfFrames =
    (channel : ℕ) (history : History)
    → (put_by (notes_on channel history) ≡ map as_carried (on channel (frames_put history)))
    × (taken_by (notes_on channel history) ≡ map as_carried (on channel (frames_taken history)))

-- an end begins to write with what the other begins to read
abbrev pub OpeningsMeet : Role → Type 0
OpeningsMeet role = opening_written (other_end role) ≡ opening_read role

-- Each end begins to write with what the other begins to read.
abbrev pub AllOpeningsMeet : Type 0
AllOpeningsMeet = (role : Role) → OpeningsMeet role

-- The octets that the other end put are those that were fed to this one, and then a rest.
pub record Carries (role : Role) (limit : ℕ) (mine theirs : History)
    (put fed unfinished rest : List ℕ) : Type 0 where
  pub put_as : PutAs (opening_read role) put (frames_put theirs)
  pub fed_as : FedAs role limit mine fed unfinished
  pub put_is : put ≡ fed ++ rest

-- on each channel, the frames that the end took are a prefix of those that the other put
abbrev pub TakesPrefixOnEach : Type 0
TakesPrefixOnEach =
    (role : Role) (limit : ℕ) (mine theirs : History) (put fed unfinished rest : List ℕ)
    → Carries role limit mine theirs put fed unfinished rest → (channel : ℕ)
    → IsPrefixOf (on channel (frames_taken mine)) (on channel (frames_put theirs))

-- a frame that the rest completes comes next
abbrev pub CompletedComesNext : Type 0
CompletedComesNext =
    (role : Role) (limit : ℕ) (mine theirs : History) (put fed unfinished rest : List ℕ)
    → (f : Frame) (prefix later : List ℕ)
    → Carries role limit mine theirs put fed unfinished rest → rest ≡ prefix ++ later
    → unfinished ++ prefix ≡ octets f → Fits f → ComesNext theirs mine f
