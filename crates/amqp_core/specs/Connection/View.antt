-- What the code keeps of a connection, in the words of the model, and what a frame leaves of it.
use Rattle.std.specs.Prelude.{◌≡◌, ℕ, List, [], ◌∷◌}
use Rattle.amqp_frame.specs.declared.frames.FrameKind.{FrameKind}
use Rattle.amqp_model.specs.End.Channels.{End}
use Rattle.amqp_model.specs.End.Closes.{ContentTooLarge, channel_close}
use Rattle.amqp_model.specs.End.Events as events
use Rattle.amqp_model.specs.End.Events.{FrameVerdict, Proceeds, RefusesContent, Faults}
use Rattle.amqp_model.specs.Wire.Frame.{Frame}
use Rattle.amqp_model.specs.History.Histories.{TookHere}
use Rattle.amqp_model.specs.End.Machine.{end_after, end_after_owed}
use Rattle.amqp_model.specs.History.Negotiation.{Config}
use Rattle.amqp_model.specs.Wire.Notes.{Role}
use Rattle.amqp_model.specs.Wire.Readings.{Reading}
use Rattle.amqp_channel.specs.Channels.ChannelsView.{channels_view}
use Rattle.amqp_channel.specs.Events.Closes.{code_view}
use Rattle.amqp_channel.specs.declared.site.Site.{Site}
use Rattle.amqp_core.specs.Config.Settings.{side_in}
use Rattle.amqp_core.specs.Connection.Stages.{phase_at, agreed_at}
use Rattle.amqp_core.specs.declared.connection.Connection.{Connection}
use Rattle.amqp_core.specs.declared.verdict.Fault.{Fault}
use Rattle.amqp_core.specs.declared.verdict.Fault.TheVariants.{Peer, Fatal}
use Rattle.amqp_core.specs.declared.settings.Settings.{Settings}

abbrev pub connection_end : Connection → End
connection_end connection =
    record {
      phase = phase_at connection.stage;
      agreed = agreed_at connection.stage;
      channels = channels_view connection.channels;
    }

abbrev pub fault_of : Fault → events.Fault
fault_of (Peer code) = events.Peer (code_view code)
fault_of Fatal = events.Fatal

-- the channel of a frame, where so many channels were agreed
abbrev pub site_at : Settings → (number channel_max : ℕ) → Site
site_at settings number channel_max =
    record { side = side_in settings.hello; number = number; channel_max = channel_max; max_body = settings.max_body }

abbrev pub frame_at : (number : ℕ) → FrameKind → List ℕ → Frame
frame_at number kind payload = record { kind = kind; channel = number; payload = payload }

-- what the frame leaves of the end, before what is owed is put
abbrev taken_here : {role : Role} → Config role → (number : ℕ) → Reading → FrameKind → List ℕ → (before : End) → End
taken_here {role} config number reading kind payload before =
    end_after role config number (TookHere reading (frame_at number kind payload)) before

-- Where the end goes on, it is left as the frame taken and the methods owed leave it. Of an end that has found fault
-- only what was agreed and channel 0 are looked at any more.
abbrev pub EndLeft : {role : Role} → Config role → (number : ℕ) → Reading → FrameVerdict → (before after : End) → Type 0
EndLeft {role} config number reading (Proceeds event owed) before after =
    (kind : FrameKind) (payload : List ℕ)
    → after ≡ end_after_owed role config owed (taken_here config number reading kind payload before)
EndLeft {role} config number reading RefusesContent before after =
    (kind : FrameKind) (payload : List ℕ)
    → after ≡ end_after_owed role config (channel_close number ContentTooLarge ∷ [])
    (taken_here config number reading kind payload before)
EndLeft config number reading (Faults fault) before after =
    ((kind : FrameKind) (payload : List ℕ)
    → after.agreed ≡ (taken_here config number reading kind payload before).agreed)
    × (after.channels 0 ≡ before.channels 0)
