-- What an end writes down of itself: one note a frame, the items that it told and those that it said, in the order in
-- which these came over all channels. Each frame taken and each frame put makes them longer, and by these words it is
-- said by what.
use Rattle.std.specs.Prelude.{◌≡◌, ◌≢◌, Bool, true, false, cond, not, ◌||◌, ℕ, zero, suc, ◌==◌}
use Rattle.std.specs.Prelude.{List, [], ◌∷◌, ◌++◌, map, Option, Some, None}
use Rattle.std.specs.Option.{option_to_list}
use Rattle.amqp_method.specs.declared.kinds.Kind.TheVariants as kinds
use Rattle.amqp_model.specs.Wire.Frame.{Frame}
use Rattle.amqp_model.specs.Wire.Notes.{Role, Kind}
use Rattle.amqp_model.specs.Wire.Items.{Item, PlainMethod, WholeContent, FlowItem, FlowOkItem, item_of}
use Rattle.amqp_model.specs.Wire.Methods.{Method, ReadsBack, sort_of}
use Rattle.amqp_model.specs.End.Closes.{method_frame}
use Rattle.amqp_model.specs.End.Asks.{Ask, Send, is_made, Puts, ask_verdict}
use Rattle.amqp_model.specs.Wire.Readings.{Reading, is_call, reading, kind_of}
use Rattle.amqp_model.specs.History.Histories.{Put, Took, History}
use Rattle.amqp_model.specs.History.Negotiation.{Config}
use Rattle.amqp_model.specs.End.Events as events
use Rattle.amqp_model.specs.End.Events.{Event, Message, Plain, Whole}
use Rattle.amqp_model.specs.End.FrameVerdict.{event_told}
use Rattle.amqp_model.specs.End.EndVerdict.{facts_at, end_verdict, end_puts, goes_on}
use Rattle.amqp_model.specs.End.ReadingBack.{AskReadsBack, WritesReadBack}
use Rattle.amqp_model.specs.End.LawfulHistories.{end_of, then_put, then_taken, Lawful}
use Rattle.amqp_model.specs.Pair.Sent.{Telling, life_on, told, said}

-- what a frame is to its channel, apart from the bit of a flow; on channel 0 every frame is an Other
pub data Word : Type 0 where
  Open OpenOk Close CloseOk Flow FlowOk Other : Word

pub data Direction : Type 0 where
  IsPut IsTaken : Direction

pub record Noted : Type 0 where
  pub channel : ℕ
  pub direction : Direction
  pub word : Word

abbrev pub word_of : Kind → Word
word_of Kind.Open = Open
word_of Kind.OpenOk = OpenOk
word_of Kind.Close = Close
word_of Kind.CloseOk = CloseOk
word_of (Kind.Flow active) = Flow
word_of (Kind.FlowOk active) = FlowOk
word_of (Kind.Other begins_content) = Other

-- the note of a frame
abbrev pub noted : Direction → Frame → Noted
noted direction frame =
    record {
      channel = frame.channel;
      direction = direction;
      word = cond (frame.channel == 0) Other (word_of (kind_of (reading frame)));
    }

-- the frame calls the method that the word names; an Other calls none of these
abbrev pub is_word_of : Word → Reading → Bool
is_word_of Open reading = is_call kinds.ChannelOpen reading
is_word_of OpenOk reading = is_call kinds.ChannelOpenOk reading
is_word_of Close reading = is_call kinds.ChannelClose reading
is_word_of CloseOk reading = is_call kinds.ChannelCloseOk reading
is_word_of Flow reading = is_call kinds.ChannelFlow reading
is_word_of FlowOk reading = is_call kinds.ChannelFlowOk reading
is_word_of Other reading =
    not
    (is_call kinds.ChannelOpen reading
    || is_call kinds.ChannelOpenOk reading
    || is_call kinds.ChannelClose reading
    || is_call kinds.ChannelCloseOk reading
    || is_call kinds.ChannelFlow reading
    || is_call kinds.ChannelFlowOk reading)

-- A note has the channel and the direction of its frame. Its word is the one that the frame calls, and on channel 0 an
-- Other.
pub record IsNoteOf (direction : Direction) (frame : Frame) (note : Noted) : Type 0 where
  pub same_channel : note.channel ≡ frame.channel
  pub same_direction : note.direction ≡ direction
  pub on_zero : frame.channel ≡ 0 → note.word ≡ Other
  pub above_zero : frame.channel ≢ 0 → is_word_of note.word (reading frame) ≡ true

-- The note of a frame says of it what it is to say.
abbrev pub NotesFrame : Type 0
NotesFrame =
    (direction : Direction) (frame : Frame)
    → IsNoteOf direction frame (noted direction frame)

-- the notes of a history, the oldest first
abbrev pub trace : History → List Noted
trace [] = []
trace (Put frame ∷ before) = trace before ++ noted IsPut frame ∷ []
trace (Took frame ∷ before) = trace before ++ noted IsTaken frame ∷ []

-- frames that are put are noted last, each once
abbrev pub TracePuts : List Frame → History → Type 0
TracePuts frames history = trace (then_put frames history) ≡ trace history ++ map (noted IsPut) frames

-- Frames that are put are noted last, each once.
abbrev pub AllPutsAreNoted : Type 0
AllPutsAreNoted = (frames : List Frame) (history : History) → TracePuts frames history

-- a frame that is taken is noted, and then those that it makes the end put
abbrev pub TraceTakes : Type 0
TraceTakes =
    (role : Role) (config : Config role) (history : History) (frame : Frame)
    → trace (then_taken config (end_of config history) frame history)
    ≡ trace history ++ noted IsTaken frame ∷ map (noted IsPut) (end_puts config (end_of config history) frame)

-- the item that an event tells: a message, a flow or a flow-ok
abbrev pub item_told : Event → Option Item
item_told (events.Told channel (Plain method)) = Some (PlainMethod method)
item_told (events.Told channel (Whole content)) = Some (WholeContent content)
item_told (events.Flow channel active) = Some (FlowItem active)
item_told (events.FlowOk channel active) = Some (FlowOkItem active)
item_told event = None

abbrev pub item_in_event : Option Event → Option Item
item_in_event None = None
item_in_event (Some event) = item_told event

-- that item, with the channel and its life
abbrev pub telling_at : (channel life : ℕ) → Option Item → List Telling
telling_at channel life item =
    map (λ item. record { channel = channel; life = life; item = item }) (option_to_list item)

-- A frame that an end takes and goes on after makes `told` longer by just the item of its event, last of all.
abbrev pub TellsEvent : (role : Role) → Config role → History → Frame → Type 0
TellsEvent role config history frame =
    WritesReadBack role config → Lawful role config false history
    → goes_on (end_verdict config (end_of config history) frame) ≡ true
    → told role config (then_taken config (end_of config history) frame history)
    ≡ told role config history ++ telling_at frame.channel (life_on role frame.channel history)
    (item_in_event (event_told (facts_at config (end_of config history) frame.channel)
    (end_verdict config (end_of config history) frame)))

-- A frame after which an end goes on adds to what it told the item of its event, and nothing else.
abbrev pub EveryEventIsTold : Type 0
EveryEventIsTold =
    (role : Role) (config : Config role) (history : History) (frame : Frame)
    → TellsEvent role config history frame

-- and frames that are put leave it
abbrev pub PutsTellNothing : (role : Role) → Config role → List Frame → History → Type 0
PutsTellNothing role config frames history = told role config (then_put frames history) ≡ told role config history

-- Frames that are put add nothing to what an end told.
abbrev pub AllPutsTellNothing : Type 0
AllPutsTellNothing =
    (role : Role) (config : Config role) (frames : List Frame) (history : History)
    → PutsTellNothing role config frames history

-- The same of what an end says.

-- an item on a channel above 0
abbrev pub telling_above : (channel life : ℕ) → Option Item → List Telling
telling_above zero life item = []
telling_above (suc n) life item = telling_at (suc n) life item

-- A method that is put makes `said` longer by the item that it is by itself: a flow-ok that is owed, and each ask that
-- puts one method.
abbrev pub SaysMethod : Role → (channel : ℕ) → Method → History → Type 0
SaysMethod role channel method history =
    ReadsBack method
    → said role (Put (method_frame channel method) ∷ history) ≡ said role history
    ++ telling_above channel (life_on role channel history) (item_of method (sort_of method))

-- A method that is put adds to what an end said the item that it is by itself.
abbrev pub EveryMethodIsSaid : Type 0
EveryMethodIsSaid =
    (role : Role) (channel : ℕ) (method : Method) (history : History)
    → SaysMethod role channel method history

-- the item of a message
abbrev pub item_of_message : Message → Item
item_of_message (Plain method) = PlainMethod method
item_of_message (Whole content) = WholeContent content

-- A message that an end sends makes `said` longer by just that message, last of all, whatever frames it is put in.
abbrev pub SaysMessage : Type 0
SaysMessage =
    (role : Role) (config : Config role) (history : History) (channel : ℕ) (message : Message) (frames : List Frame)
    → WritesReadBack role config → Lawful role config false history
    → is_made (Send channel message) ≡ true → AskReadsBack (Send channel message)
    → ask_verdict role (end_of config history) (Send channel message) ≡ Puts frames
    → said role (then_put frames history)
    ≡ said role history ++ telling_at channel (life_on role channel history) (Some (item_of_message message))

-- What an ask says: a message that is sent says itself, and a flow that is asked its flow, each on its channel in the
-- life that the channel has then. All other asks say nothing.
abbrev pub said_by_ask : Role → Ask → History → List Telling
said_by_ask role (Send channel message) history =
    telling_at channel (life_on role channel history) (Some (item_of_message message))
said_by_ask role (Ask.Flow channel active) history =
    telling_at channel (life_on role channel history) (Some (FlowItem active))
said_by_ask role ask history = []

-- An ask that is accepted makes `said` longer by just that, last of all.
abbrev pub SaysAsk : (role : Role) → Config role → History → Ask → List Frame → Type 0
SaysAsk role config history ask frames =
    WritesReadBack role config → Lawful role config false history
    → is_made ask ≡ true → AskReadsBack ask → ask_verdict role (end_of config history) ask ≡ Puts frames
    → said role (then_put frames history) ≡ said role history ++ said_by_ask role ask history

-- An accepted ask adds to what an end said just what it says.
abbrev pub EveryAskIsSaid : Type 0
EveryAskIsSaid =
    (role : Role) (config : Config role) (history : History) (ask : Ask) (frames : List Frame)
    → SaysAsk role config history ask frames

-- Frames that are taken leave what an end said.
abbrev pub TakenSaysNothing : Type 0
TakenSaysNothing =
    (role : Role) (frame : Frame) (history : History)
    → said role (Took frame ∷ history) ≡ said role history
