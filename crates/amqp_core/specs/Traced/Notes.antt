-- Notes and items of the code, in the words of the model.
use Rattle.std.specs.Prelude.{cond, ◌==◌, ℕ, Option, Some, None}
use Rattle.amqp_method.specs.MessageView.{message_view}
use Rattle.amqp_model.specs.Wire.Items as items
use Rattle.amqp_model.specs.Pair.Sent as sent
use Rattle.amqp_model.specs.Stream.Traces as traces
use Rattle.amqp_model.specs.Stream.Traces.{Noted, item_of_message}
use Rattle.amqp_channel.specs.Events.EventView.{message_of}
use Rattle.amqp_core.specs.declared.notes.Direction.{Direction}
use Rattle.amqp_core.specs.declared.notes.Direction.TheVariants as directions
use Rattle.amqp_core.specs.declared.notes.Note.{Note}
use Rattle.amqp_core.specs.declared.notes.Word.{Word}
use Rattle.amqp_core.specs.declared.notes.Word.TheVariants as words
use Rattle.amqp_core.specs.declared.tellings.Item.{Item}
use Rattle.amqp_core.specs.declared.tellings.Item.TheVariants as code
use Rattle.amqp_core.specs.declared.tellings.Telling.{Telling}

abbrev pub word_view : Word → traces.Word
word_view words.Open = traces.Open
word_view words.OpenOk = traces.OpenOk
word_view words.Close = traces.Close
word_view words.CloseOk = traces.CloseOk
word_view words.Flow = traces.Flow
word_view words.FlowOk = traces.FlowOk
word_view words.Other = traces.Other

abbrev direction_view : Direction → traces.Direction
direction_view directions.Put = traces.IsPut
direction_view directions.Took = traces.IsTaken

abbrev pub note_view : Note → Noted
note_view note =
    record { channel = note.channel; direction = direction_view note.direction; word = word_view note.word }

-- the note of a frame that is this to a channel above 0
abbrev pub noted_as : traces.Direction → (channel : ℕ) → traces.Word → Noted
noted_as direction channel word =
    record { channel = channel; direction = direction; word = cond (channel == 0) traces.Other word }

abbrev pub item_view : Item → items.Item
item_view (code.Message message) = item_of_message (message_of (message_view message))
item_view (code.Flow active) = items.FlowItem active
item_view (code.FlowOk active) = items.FlowOkItem active

abbrev pub item_there : Option Item → Option items.Item
item_there None = None
item_there (Some item) = Some (item_view item)

abbrev pub telling_view : Telling → sent.Telling
telling_view telling = record { channel = telling.channel; life = telling.life; item = item_view telling.item }
