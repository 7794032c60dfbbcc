-- What a piece adds to the lists of an end that is kept with its history.
use Rattle.std.specs.Prelude.{ℕ, List, [], ◌∷◌, ◌++◌, Option, Some, None}
use Rattle.amqp_model.specs.End.Closes as closes
use Rattle.amqp_model.specs.Wire.Items.{Item, FlowOkItem, item_of}
use Rattle.amqp_model.specs.Wire.Methods.{sort_of}
use Rattle.amqp_model.specs.Wire.Notes.{Role, Client, Server}
use Rattle.amqp_model.specs.Wire.Readings.{Calls, kind_of}
use Rattle.amqp_model.specs.Pair.Sent.{Telling}
use Rattle.amqp_model.specs.Stream.Traces.{Close, CloseOk, FlowOk, IsPut, Noted, OpenOk, Other, Word, telling_above}
use Rattle.amqp_model.specs.Stream.Traces.{telling_at, word_of}
use Rattle.amqp_channel.specs.declared.verdict.Reply.{Reply}
use Rattle.amqp_channel.specs.declared.verdict.Reply.TheVariants as reply
use Rattle.amqp_core.specs.Traced.LifeCounts.{counted_lives}
use Rattle.amqp_core.specs.Traced.Notes.{noted_as}
use Rattle.amqp_core.specs.declared.owed.Owed.{Owed}
use Rattle.amqp_core.specs.declared.owed.Owed.TheVariants as owed

-- the note of a method that is put
abbrev pub noted_owed : closes.Owed → Noted
noted_owed owed = noted_as IsPut owed.channel (word_of (kind_of (Calls owed.method)))

-- the item of a reply
abbrev pub item_of_reply : Reply → Option Item
item_of_reply (reply.FlowOk active) = Some (FlowOkItem active)
item_of_reply other = None

-- what is said by what an end owes: a flow-ok says itself, in the life that its channel has then
abbrev pub said_by_owed : (lives : ℕ → ℕ) → Owed → List Telling
said_by_owed lives (owed.OnChannel number answer) = telling_above number (lives number) (item_of_reply answer)
said_by_owed lives other = []

-- how many lives of a channel began, by the notes
abbrev pub lives_in : Role → List Noted → (channel : ℕ) → ℕ
lives_in role notes channel = (counted_lives role channel notes).lives

-- the note of a method on channel 0
abbrev noted_zero : Noted
noted_zero = record { channel = 0; direction = IsPut; word = Other }

abbrev by_role : {A : Type 0} → Role → (client server : A) → A
by_role Client client server = client
by_role Server client server = server

abbrev pub word_of_reply : Reply → Word
word_of_reply reply.OpenOk = OpenOk
word_of_reply reply.CloseOk = CloseOk
word_of_reply (reply.FlowOk active) = FlowOk

-- the notes of what an end owes; each role alone has its part in the handshake
abbrev pub notes_owed : Role → Owed → List Noted
notes_owed role owed.Nothing = []
notes_owed role owed.Start = by_role role [] (noted_zero ∷ [])
notes_owed role owed.StartOk = by_role role (noted_zero ∷ []) []
notes_owed role owed.Tune = by_role role [] (noted_zero ∷ [])
notes_owed role (owed.TuneOkAndOpen agreed) = by_role role (noted_zero ∷ noted_zero ∷ []) []
notes_owed role owed.OpenOk = noted_zero ∷ []
notes_owed role (owed.Close code) = noted_zero ∷ []
notes_owed role owed.CloseOk = noted_zero ∷ []
notes_owed role (owed.OnChannel number answer) = noted_as IsPut number (word_of_reply answer) ∷ []
notes_owed role (owed.ChannelClose number code) = noted_as IsPut number Close ∷ []

-- what a frame that was taken tells
abbrev pub note_tells : (lives : ℕ → ℕ) → Option Noted → Option Item → List Telling
note_tells lives None item = []
note_tells lives (Some note) item = telling_at note.channel (lives note.channel) item

-- what is said by methods that are put, in the lives that their channels have then
abbrev said_of : (lives : ℕ → ℕ) → List closes.Owed → List Telling
said_of lives [] = []
said_of lives (owed ∷ later) =
    telling_above owed.channel (lives owed.channel) (item_of owed.method (sort_of owed.method)) ++ said_of lives later
