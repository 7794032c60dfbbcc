-- The texts of phases, notes and asks, each in the words of the program's scripts.
use Rattle.std.specs.Prelude.{ℕ, List, ◌++◌, Option, Some, None, codes}
use Rattle.std.specs.Fmt.{decimal}
use Rattle.amqp_value.specs.Text.{quoted}
use Rattle.amqp_method.specs.Kinds.{kind_with}
use Rattle.amqp_method.specs.MessageView.{message_view}
use Rattle.amqp_method.specs.Methods.{row}
use Rattle.amqp_method.specs.Texts.{text_of_message}
use Rattle.amqp_method.specs.declared.kinds.Kind.{Kind}
use Rattle.amqp_channel.specs.Events.EventTexts.{channel_text, flow_text}
use Rattle.amqp_core.specs.declared.asks.Ask.{Ask}
use Rattle.amqp_core.specs.declared.asks.Ask.TheVariants as ask
use Rattle.amqp_core.specs.declared.heard.Cause.{Cause}
use Rattle.amqp_core.specs.declared.notes.Direction.{Direction}
use Rattle.amqp_core.specs.declared.notes.Direction.TheVariants.{Put, Took}
use Rattle.amqp_core.specs.declared.notes.Note.{Note}
use Rattle.amqp_core.specs.declared.notes.Word.{Word}
use Rattle.amqp_core.specs.declared.notes.Word.TheVariants as word
use Rattle.amqp_core.specs.declared.stage.Phase.{Phase}
use Rattle.amqp_core.specs.declared.stage.Phase.TheVariants as phase

abbrev pub phase_text : Phase → List ℕ
phase_text phase.Handshake = codes "handshake"
phase_text phase.Running = codes "running"
phase_text phase.Closing = codes "closing"
phase_text phase.Closed = codes "closed"
phase_text phase.Failed = codes "failed"

abbrev pub direction_text : Direction → List ℕ
direction_text Put = codes "put"
direction_text Took = codes "took"

abbrev pub word_text : Word → List ℕ
word_text word.Open = codes "open"
word_text word.OpenOk = codes "open-ok"
word_text word.Close = codes "close"
word_text word.CloseOk = codes "close-ok"
word_text word.Flow = codes "flow"
word_text word.FlowOk = codes "flow-ok"
word_text word.Other = codes "other"

-- a channel, and what was done there
abbrev pub note_text : Note → List ℕ
note_text note =
    decimal note.channel ++ (codes " " ++ (direction_text note.direction ++ (codes " " ++ word_text note.word)))

-- a code and a quoted text
abbrev pub closing_text : (code : ℕ) → (text : List ℕ) → List ℕ
closing_text code text = decimal code ++ (codes " " ++ quoted text)

abbrev pub ask_text : Ask → List ℕ
ask_text ask.Open = codes "open"
ask_text (ask.Send channel message) =
    channel_text (codes "send") channel ++ (codes " " ++ text_of_message (message_view message))
ask_text (ask.Flow channel active) = flow_text (codes "flow") channel active
ask_text (ask.CloseChannel channel code text) =
    channel_text (codes "close-channel") channel ++ (codes " " ++ closing_text code text)
ask_text (ask.Close code text) = codes "close " ++ closing_text code text
ask_text (ask.Blocked reason) = codes "blocked " ++ quoted reason
ask_text ask.Unblocked = codes "unblocked"

-- the method that is named, or the two numbers where there is none
abbrev named_or : Option Kind → (class_id method_id : ℕ) → List ℕ
named_or (Some kind) class_id method_id = (row kind).name
named_or None class_id method_id = codes "class " ++ (decimal class_id ++ (codes " method " ++ decimal method_id))

abbrev pub cause_text : Cause → List ℕ
cause_text cause = named_or (kind_with cause.class_id cause.method_id) cause.class_id cause.method_id
