-- The event that an end which gathers tells where this one is lent. Read before: the events that lend (`EventRefView`).
use Rattle.std.specs.Prelude.{◌≡◌, ◌⊎◌, ◌<◌, true, false, cond, ℕ, List, [], length, Option, Some, None}
use Rattle.amqp_model.specs.End.Events as events
use Rattle.amqp_model.specs.End.Events.{Event, Plain}
use Rattle.amqp_model.specs.Lent.Alike.{LentEvent, WithoutContent, Other}
use Rattle.amqp_model.specs.Wire.Methods.{Method, carries_content}
use Rattle.amqp_method.specs.MessageView.{message_view}
use Rattle.amqp_method.specs.declared.messages.Message.{Message}
use Rattle.amqp_channel.specs.Events.EventView.{message_of}
use Rattle.amqp_channel.specs.Events.Closes.{reason_view}
use Rattle.amqp_channel.specs.declared.events.Reason.{Reason}

-- a method without content is told, a content's frame is not, and the others are told as they are
abbrev owned_event : LentEvent → Option Event
owned_event (WithoutContent number method) =
    cond (carries_content method) None (Some (events.Told number (Plain method)))
owned_event (Other event) = Some event
owned_event event = None

-- the text in an event
abbrev text_in : Event → List ℕ
text_in (events.ChannelClosed number (Some reason)) = reason.text
text_in (events.ConnectionClosed (Some reason)) = reason.text
text_in (events.Blocked reason) = reason
text_in event = []

-- it is longer than a short string
abbrev HasLongText : LentEvent → Type 0
HasLongText (Other event) = 255 < length (text_in event)
HasLongText event = ⊥

-- the event of one's own, or none where there is none or its text is too long
abbrev pub IsOwned : LentEvent → Option Event → Type 0
IsOwned lent (Some event) = owned_event lent ≡ Some event
IsOwned lent None = (owned_event lent ≡ None) ⊎ HasLongText lent

-- The parts of it.

abbrev pub IsOwnedText : List ℕ → Option (List ℕ) → Type 0
IsOwnedText octets (Some text) = text ≡ octets
IsOwnedText octets None = 255 < length octets

abbrev pub IsOwnedReason : events.Reason → Option Reason → Type 0
IsOwnedReason lent (Some reason) = reason_view reason ≡ lent
IsOwnedReason lent None = 255 < length lent.text

abbrev pub IsOwnedMessage : Method → Option Message → Type 0
IsOwnedMessage method (Some message) =
    (message_of (message_view message) ≡ Plain method) × (carries_content method ≡ false)
IsOwnedMessage method None = carries_content method ≡ true
