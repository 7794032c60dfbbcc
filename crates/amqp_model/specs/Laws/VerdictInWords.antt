-- What an end says of a frame that it goes on after: what the lives of a channel say of it, event and reply, and of a
-- message the item that is whole with the frame.
use Rattle.std.specs.Prelude.{◌≡◌, ◌≢◌, true, false, ℕ, Option, Some, None}
use Rattle.amqp_model.specs.Wire.Notes.{Role, Kind}
use Rattle.amqp_model.specs.History.Verdict as lives
use Rattle.amqp_model.specs.History.Verdict.{verdict_at}
use Rattle.amqp_model.specs.Wire.Items.{Item, PlainMethod, WholeContent, FlowItem, FlowOkItem, item_ended}
use Rattle.amqp_model.specs.End.Events.{Event, Told, Flow, FlowOk, Plain, Whole}
use Rattle.amqp_model.specs.Wire.Readings.{Reading, kind_of, payload_of}
use Rattle.amqp_model.specs.End.Channels.{Life, Open, Running, state_of}
use Rattle.amqp_model.specs.End.FrameVerdict.{Facts, as_lives, awaits_in, verdict_on, event_told}
use Rattle.amqp_model.specs.End.EndVerdict.{goes_on}
use Rattle.amqp_model.specs.Laws.EndLaws.{is_over}
use Rattle.amqp_model.specs.Stream.Traces.{item_in_event}

-- On a channel above 0, where the lives of a channel name an event other than a message, the verdict is that event,
-- said of this channel, and the reply that they owe.
abbrev pub SaysAsLives : Type 0
SaysAsLives =
    (role : Role) (facts : Facts role) (reading : Reading) (event : lives.ChannelEvent) (owed : Option Kind)
    → is_over facts.phase ≡ false → facts.number ≢ 0 → goes_on (verdict_on facts reading) ≡ true
    → verdict_at role (state_of facts.channel) (awaits_in facts.channel) (kind_of reading) ≡ lives.GoesOn event owed
    → event ≢ lives.Acted
    → verdict_on facts reading ≡ as_lives facts.number reading (lives.GoesOn event owed)

-- the event that tells an item on a channel
abbrev event_telling : (channel : ℕ) → Item → Event
event_telling channel (PlainMethod method) = Told channel (Plain method)
event_telling channel (WholeContent content) = Told channel (Whole content)
event_telling channel (FlowItem active) = Flow channel active
event_telling channel (FlowOkItem active) = FlowOk channel active

-- an event, or none, tells this item on this channel, or no item at all
abbrev pub TellsItem : (channel : ℕ) → Option Item → Option Event → Type 0
TellsItem channel (Some item) event = event ≡ Some (event_telling channel item)
TellsItem channel None event = item_in_event event ≡ None

-- On an Open channel of a Running end the event tells the item that the frame ends, on this channel, and no item where
-- it ends none.
abbrev pub TellsItemEnded : Type 0
TellsItemEnded =
    (role : Role) (facts : Facts role) (reading : Reading) (life : Life)
    → facts.phase ≡ Running → facts.number ≢ 0 → facts.channel ≡ Open life
    → goes_on (verdict_on facts reading) ≡ true
    → TellsItem facts.number (item_ended life.content (payload_of reading))
    (event_told facts (verdict_on facts reading))
