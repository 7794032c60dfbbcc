-- What holds of an end and its history: the statements that the public laws carry.
use Rattle.std.specs.Prelude.{◌≡◌, ◌≢◌, ◌≤◌, ◌<◌, ◌+◌, ◌⊎◌, Bool, true, false, ℕ, suc}
use Rattle.std.specs.Prelude.{List, [], ◌∷◌, map, Option, Some, None}
use Rattle.amqp_model.specs.Wire.Frame.{Frame}
use Rattle.amqp_model.specs.Wire.Notes.{Role, Kind}
use Rattle.amqp_model.specs.History.Verdict as lives
use Rattle.amqp_model.specs.History.Verdict.{verdict_at}
use Rattle.amqp_model.specs.History.Lives.{has_left, state}
use Rattle.amqp_model.specs.Wire.Notes.{Note}
use Rattle.amqp_model.specs.Pair.Carried.{Carry}
use Rattle.amqp_model.specs.Pair.Runs.{IsNext, Acts}
use Rattle.amqp_model.specs.Wire.Methods.{ReadsBack}
use Rattle.amqp_model.specs.Wire.Readings.{Reading, kind_of, reading as reading_of}
use Rattle.amqp_model.specs.History.Histories.{Entry, Put, Took, History, ChannelEntry, PutHere, TookHere, LeftHere}
use Rattle.amqp_model.specs.History.Histories.{channel_of, entries_on, notes}
use Rattle.amqp_model.specs.End.Channels.{Free, Channel, Phase, Handshake, Running, Failed, End, state_of}
use Rattle.amqp_model.specs.History.Negotiation.{Config}
use Rattle.amqp_model.specs.End.StateFromHistory.{channel_from, end_from}
use Rattle.amqp_model.specs.End.FrameVerdict.{Facts, on_channel, awaits_in, verdict_on}
use Rattle.amqp_model.specs.End.Closes.{reply_to}
use Rattle.amqp_model.specs.End.Events.{Event, FrameVerdict, Proceeds, RefusesContent}
use Rattle.amqp_model.specs.End.Answers.{channel_state, octets_gathered, reply_due}
use Rattle.amqp_model.specs.End.Asks.{first_free, is_free, Ask, is_made, method_asked, Puts, ask_verdict}
use Rattle.amqp_model.specs.End.EndVerdict.{end_verdict, goes_on, too_large_puts, takes_frames, takes_octets, CanTake}
use Rattle.amqp_model.specs.End.Controls.{Control, control_verdict}
use Rattle.amqp_model.specs.End.ReadingBack.{AskReadsBack, ControlReadsBack, WritesReadBack}
use Rattle.amqp_model.specs.End.LawfulHistories.{then_put, then_taken, Goes, Lawful}
use Rattle.amqp_model.specs.End.Machine.{end_after, end_after_taken, end_after_too_large, end_after_put, as_failed}
use Rattle.amqp_model.specs.End.Machine.{new_end, channel_after, may_put_here, ChannelStandsFor, StandsFor}

-- A Running end takes a frame on a channel above 0, and goes on: what it keeps of the channel follows from what it
-- kept and from the frame, and stands for the channel's entries with that frame.
abbrev pub FollowsTaken : Type 0
FollowsTaken =
    (role : Role) (facts : Facts role) (reading : Reading) (frame : Frame) (entries : List ChannelEntry)
    → facts.phase ≡ Running → facts.number ≢ 0 → has_left (notes entries) ≡ false
    → ChannelStandsFor role facts.channel entries → goes_on (verdict_on facts reading) ≡ true
    → ChannelStandsFor role (channel_after role (TookHere reading frame) facts.channel)
    (TookHere reading frame ∷ entries)

-- An end puts a frame on a channel above 0, as its application asks or as its verdict owes: what it keeps of the
-- channel stands for the channel's entries with that frame.
abbrev pub FollowsPut : Type 0
FollowsPut =
    (role : Role) (channel : Channel) (reading : Reading) (frame : Frame) (entries : List ChannelEntry)
    → has_left (notes entries) ≡ false → ChannelStandsFor role channel entries
    → may_put_here role channel reading ≡ true
    → ChannelStandsFor role (channel_after role (PutHere reading frame) channel) (PutHere reading frame ∷ entries)

-- connection.close, and what follows it, leave what the end keeps of the channel
abbrev pub StaysLeaving : Type 0
StaysLeaving =
    (role : Role) (channel : Channel) (entry : ChannelEntry) (entries : List ChannelEntry)
    → has_left (notes entries) ≡ true → ChannelStandsFor role channel entries
    → ChannelStandsFor role channel (entry ∷ entries)

-- The mark of a connection.close leaves what the end keeps of the channel.
abbrev pub StaysAtLeaving : Type 0
StaysAtLeaving =
    (role : Role) (channel : Channel) (entries : List ChannelEntry)
    → ChannelStandsFor role channel entries → ChannelStandsFor role channel (LeftHere ∷ entries)

-- an entry of another channel above 0 leaves the channel's entries, and so what stands for them
abbrev pub LeavesOthers : Type 0
LeavesOthers =
    (entry : Entry) (history : History) (channel : ℕ)
    → channel_of entry ≢ 0 → channel_of entry ≢ channel
    → entries_on channel (entry ∷ history) ≡ entries_on channel history

-- what the record of a channel says is what its entries count to
abbrev pub ReadsChannel : Role → Channel → List ChannelEntry → Type 0
ReadsChannel role channel entries = ChannelStandsFor role channel entries → channel_from role entries ≡ channel

-- What the record of a channel says is what its entries count to.
abbrev pub EveryRecordReads : Type 0
EveryRecordReads = (role : Role) (channel : Channel) (entries : List ChannelEntry) → ReadsChannel role channel entries

-- its state is the one that the lives of a channel count
abbrev pub ReadsState : Role → List ChannelEntry → Type 0
ReadsState role entries = state_of (channel_from role entries) ≡ state role (notes entries)

-- The state read off a channel's entries is the one that the lives of a channel count.
abbrev pub EveryStateReads : Type 0
EveryStateReads = (role : Role) (entries : List ChannelEntry) → ReadsState role entries

-- the verdict of an end on a frame is the one that its history gives
abbrev pub VerdictOfHistory : (role : Role) → Config role → (failed : Bool) → End → History → Frame → Type 0
VerdictOfHistory role config failed end history frame =
    StandsFor role config failed end history
    → end_verdict config end frame ≡ end_verdict config (end_from role config failed history) frame

-- The verdict of an end on a frame is the one that its history gives.
abbrev pub EveryVerdictIsOfHistory : Type 0
EveryVerdictIsOfHistory =
    (role : Role) (config : Config role) (failed : Bool) (end : End) (history : History) (frame : Frame)
    → VerdictOfHistory role config failed end history frame

-- what comes of an ask is what its history gives
abbrev pub AskOfHistory : (role : Role) → Config role → (failed : Bool) → End → History → Ask → Type 0
AskOfHistory role config failed end history ask =
    StandsFor role config failed end history
    → ask_verdict role end ask ≡ ask_verdict role (end_from role config failed history) ask

-- What comes of an ask is what the end's history gives.
abbrev pub EveryAskIsOfHistory : Type 0
EveryAskIsOfHistory =
    (role : Role) (config : Config role) (failed : Bool) (end : End) (history : History) (ask : Ask)
    → AskOfHistory role config failed end history ask

-- this is what the lives of a channel say of what is read there
abbrev pub LivesSay : Role → Channel → Reading → lives.Verdict → Type 0
LivesSay role channel reading verdict =
    verdict_at role (state_of channel) (awaits_in channel) (kind_of reading) ≡ verdict

-- A verdict that goes on agrees with the lives of a channel: they go on too, and owe the reply that it puts; or it
-- refuses a content, of which they say no more than that it came.
pub data AgreesWithLives (role : Role) (number : ℕ) (channel : Channel) (reading : Reading)
    (verdict : FrameVerdict) : Type 0 where
  agrees : (event : lives.ChannelEvent) (owed : Option Kind) (told : Option Event)
      → LivesSay role channel reading (lives.GoesOn event owed)
      → verdict ≡ Proceeds told (map (on_channel number) (reply_to owed))
      → AgreesWithLives role number channel reading verdict
  refuses :
      LivesSay role channel reading (lives.GoesOn lives.Acted None) → verdict ≡ RefusesContent
      → AgreesWithLives role number channel reading verdict

-- the connection is closed, or the end has put connection.close or has failed
abbrev pub is_over : Phase → Bool
is_over (Handshake step) = false
is_over Running = false
is_over phase = true

-- Where an end that is not over goes on with a frame of a channel above 0, so do the lives of the channel: they owe the
-- reply that its verdict puts, or it refuses a content, of which they say that it came.
abbrev pub VerdictAgrees : Type 0
VerdictAgrees =
    (role : Role) (facts : Facts role) (reading : Reading)
    → is_over facts.phase ≡ false → facts.number ≢ 0 → goes_on (verdict_on facts reading) ≡ true
    → AgreesWithLives role facts.number facts.channel reading (verdict_on facts reading)

-- an end acts on a channel as the lives of a channel allow, any number of times
pub data ActsOn (role : Role) (theirs : List Note) : List Note → List Note → Type 0 where
  rests : {mine : List Note} → ActsOn role theirs mine mine
  acts :
      {mine next after : List Note} → Acts role theirs mine next → ActsOn role theirs next after
      → ActsOn role theirs mine after

-- the notes of a channel above 0
abbrev pub notes_on : (channel : ℕ) → History → List Note
notes_on channel history = notes (entries_on channel history)

-- an end goes on after it takes the frame
abbrev pub GoesOnAfter : {role : Role} → Config role → End → Frame → Type 0
GoesOnAfter config end frame = goes_on (end_verdict config end frame) ≡ true

-- or finds fault with it
abbrev pub FindsFault : {role : Role} → Config role → End → Frame → Type 0
FindsFault config end frame = goes_on (end_verdict config end frame) ≡ false

-- the frame is the next note of its channel that the other end put and this one has not taken
abbrev IsNextNote : (theirs mine : List Note) → Frame → Type 0
IsNextNote theirs mine frame = IsNext theirs mine (Carry (kind_of (reading_of frame)) frame)

-- An end takes a frame, and goes on. If the frame is the next that the other put on its channel, the end acts on each
-- channel above 0 as the lives of a channel allow.
abbrev pub TakesActs : Type 0
TakesActs =
    (role : Role) (config : Config role) (history : History) (frame : Frame) (n : ℕ) (theirs : List Note)
    → WritesReadBack role config → GoesOnAfter config (end_from role config false history) frame
    → (frame.channel ≡ suc n → IsNextNote theirs (notes_on (suc n) history) frame)
    → ActsOn role theirs (notes_on (suc n) history)
    (notes_on (suc n) (then_taken config (end_from role config false history) frame history))

-- An end accepts an ask: it acts on each channel above 0 as the lives of a channel allow.
abbrev pub AsksActs : Type 0
AsksActs =
    (role : Role) (config : Config role) (history : History) (ask : Ask) (frames : List Frame) (n : ℕ)
    (theirs : List Note)
    → ReadsBack (method_asked ask) → is_made ask ≡ true
    → ask_verdict role (end_from role config false history) ask ≡ Puts frames
    → ActsOn role theirs (notes_on (suc n) history) (notes_on (suc n) (then_put frames history))

-- an entry as its channel sees it
abbrev seen_by_channel : Entry → ChannelEntry
seen_by_channel (Put frame) = PutHere (reading_of frame) frame
seen_by_channel (Took frame) = TookHere (reading_of frame) frame

-- the end goes on with a frame that it takes; what it puts stands on channel 0, or on a channel that may carry it
abbrev pub EntryFits : (role : Role) → Config role → End → Entry → Type 0
EntryFits role config end (Took frame) = GoesOnAfter config end frame
EntryFits role config end (Put frame) =
    (frame.channel ≡ 0) ⊎ ((end.phase ≡ Running)
    × (may_put_here role (end.channels frame.channel) (reading_of frame) ≡ true))

-- what the end keeps after such an entry stands for its history with that entry
abbrev pub EndFollows : Type 0
EndFollows =
    (role : Role) (config : Config role) (end : End) (history : History) (entry : Entry)
    → StandsFor role config false end history → EntryFits role config end entry
    → StandsFor role config false (end_after role config (channel_of entry) (seen_by_channel entry) end)
    (entry ∷ history)

-- a new end stands for a history of nothing
abbrev pub NewEndStands : Type 0
NewEndStands =
    (role : Role) (config : Config role)
    → StandsFor role config false (new_end role) []

-- the lowest of so many numbers, counted up from one, at which the channel is Free
pub record IsLowestFree (channels : ℕ → Channel) (many from k : ℕ) : Type 0 where
  pub free : is_free (channels k) ≡ true
  pub at_least : from ≤ k
  pub below_end : k < from + many
  pub none_below : (j : ℕ) → from ≤ j → j < k → is_free (channels j) ≡ false

abbrev NoneFree : (ℕ → Channel) → (many from : ℕ) → Type 0
NoneFree channels many from = (j : ℕ) → from ≤ j → j < from + many → is_free (channels j) ≡ false

abbrev pub FindsLowest : (ℕ → Channel) → (many from : ℕ) → Option ℕ → Type 0
FindsLowest channels many from (Some k) = IsLowestFree channels many from k
FindsLowest channels many from None = NoneFree channels many from

-- The channel that an open takes is the lowest that is free.
abbrev pub EveryLowestIsFound : Type 0
EveryLowestIsFound =
    (channels : ℕ → Channel) (many from : ℕ)
    → FindsLowest channels many from (first_free channels many from)

-- An end takes a frame, and goes on: what it keeps then stands for its history with the frame, and with the frames that
-- it owes.
abbrev pub FrameFollows : Type 0
FrameFollows =
    (role : Role) (config : Config role) (end : End) (history : History) (frame : Frame)
    → WritesReadBack role config → StandsFor role config false end history → GoesOnAfter config end frame
    → StandsFor role config false (end_after_taken role config end (reading_of frame) frame)
    (then_taken config end frame history)

-- An end accepts an ask: what it keeps then stands for its history with the frames put.
abbrev pub AskFollows : Type 0
AskFollows =
    (role : Role) (config : Config role) (end : End) (history : History) (ask : Ask) (frames : List Frame)
    → StandsFor role config false end history → ReadsBack (method_asked ask) → is_made ask ≡ true
    → ask_verdict role end ask ≡ Puts frames
    → StandsFor role config false (end_after_put role config frames end) (then_put frames history)

-- An end takes a frame, and finds fault with it: what it keeps then stands for its history with the frame, and with the
-- connection.close that it puts, if it puts one.
abbrev pub FrameFails : Type 0
FrameFails =
    (role : Role) (config : Config role) (end : End) (history : History) (frame : Frame)
    → WritesReadBack role config → StandsFor role config false end history → FindsFault config end frame
    → StandsFor role config true (end_after_taken role config end (reading_of frame) frame)
    (then_taken config end frame history)

-- An end that is shown a frame above the limit, which is not taken, stands for its history with the close that it puts.
abbrev pub TooLargeFails : Type 0
TooLargeFails =
    (role : Role) (config : Config role) (end : End) (history : History)
    → WritesReadBack role config → StandsFor role config false end history
    → StandsFor role config true (end_after_too_large role config end) (then_put (too_large_puts config end) history)

-- An end that fails and puts nothing stands for its history, as one that has failed.
abbrev pub AnyFails : Type 0
AnyFails =
    (role : Role) (config : Config role) (end : End) (history : History)
    → StandsFor role config false end history → StandsFor role config true (as_failed end) history

-- Of an end that has failed only its phase, what was agreed and channel 0 are looked at: it may keep the rest as it
-- likes.
abbrev pub FailedIsRead : (role : Role) → Config role → (end next : End) → History → Type 0
FailedIsRead role config end next history =
    StandsFor role config true end history → next.phase ≡ end.phase → next.agreed ≡ end.agreed
    → next.channels 0 ≡ Free → StandsFor role config true next history

-- Of an end that has failed only its phase, what was agreed and channel 0 are looked at.
abbrev pub EveryFailedIsRead : Type 0
EveryFailedIsRead =
    (role : Role) (config : Config role) (end next : End) (history : History)
    → FailedIsRead role config end next history

-- an end that stands for a history without a failure has not failed
abbrev pub StandingHasNotFailed : (role : Role) → Config role → End → History → Type 0
StandingHasNotFailed role config end history = StandsFor role config false end history → end.phase ≢ Failed

-- An end that stands for a history without a failure has not failed.
abbrev pub NoStandingEndHasFailed : Type 0
NoStandingEndHasFailed =
    (role : Role) (config : Config role) (end : End) (history : History)
    → StandingHasNotFailed role config end history

-- What is read off a lawful history stands for it.
abbrev pub LawfulStands : Type 0
LawfulStands =
    (role : Role) (config : Config role) (failed : Bool) (history : History)
    → WritesReadBack role config → Lawful role config failed history
    → StandsFor role config failed (end_from role config failed history) history

-- an end that stands for a lawful history goes on to stand for it with each step
abbrev pub StepFollows : Type 0
StepFollows =
    (role : Role) (config : Config role) (end : End) (before : History) (taken : Option Frame) (failed : Bool)
    (after : History)
    → WritesReadBack role config → StandsFor role config false end before
    → Goes role config before taken failed after → (next : End) × StandsFor role config failed next after

-- what an end answers of a channel is what its history gives
pub record SameAnswers (end other : End) (number : ℕ) : Type 0 where
  pub state : channel_state end number ≡ channel_state other number
  pub octets : octets_gathered end number ≡ octets_gathered other number
  pub request : reply_due end number ≡ reply_due other number

abbrev pub AnswersOfHistory : (role : Role) → Config role → (failed : Bool) → End → History
    → (number : ℕ) → Type 0
AnswersOfHistory role config failed end history number =
    StandsFor role config failed end history → SameAnswers end (end_from role config failed history) number

-- What an end answers of a channel is what its history gives.
abbrev pub AllAnswersAreOfHistory : Type 0
AllAnswersAreOfHistory =
    (role : Role) (config : Config role) (failed : Bool) (end : End) (history : History) (number : ℕ)
    → AnswersOfHistory role config failed end history number

-- The steps of an end that stands for its history, by what it keeps.
pub record StepsOfEnd (role : Role) (config : Config role) (end : End) (history : History) : Type 0 where
  pub takes : (frame : Frame) → CanTake end frame → GoesOnAfter config end frame
      → Goes role config history (Some frame) false (then_taken config end frame history)
  pub faults : (frame : Frame) → CanTake end frame → FindsFault config end frame
      → Goes role config history (Some frame) true (then_taken config end frame history)
  pub too_large :
      takes_frames end.phase ≡ true
      → Goes role config history None true (then_put (too_large_puts config end) history)
  pub fails : takes_octets end.phase ≡ true → Goes role config history None true history
  pub asks :
      (ask : Ask) (frames : List Frame) → is_made ask ≡ true → AskReadsBack ask
      → ask_verdict role end ask ≡ Puts frames → Goes role config history None false (then_put frames history)
  pub controls : (control : Control) (frames : List Frame) → ControlReadsBack role config control
      → control_verdict role config end control ≡ Puts frames
      → Goes role config history None false (then_put frames history)

-- By what an end keeps that stands for its history, these are steps of that history: frames, faults, failures, asks and
-- controls.
abbrev pub EndSteps : Type 0
EndSteps =
    (role : Role) (config : Config role) (end : End) (history : History)
    → StandsFor role config false end history → StepsOfEnd role config end history
