-- The methods that an end puts of itself, in the words of the model.
use Rattle.std.specs.Prelude.{List, [], ◌∷◌, map, Some}
use Rattle.amqp_model.specs.End.Channels as channels
use Rattle.amqp_model.specs.End.Closes as closes
use Rattle.amqp_model.specs.End.Closes.{connection_close, connection_close_ok, channel_close, reply_to}
use Rattle.amqp_model.specs.End.FrameVerdict.{on_zero, on_channel}
use Rattle.amqp_model.specs.History.Negotiation.{Config, start, start_ok, tune, tune_ok, connection_open}
use Rattle.amqp_model.specs.History.Negotiation.{connection_open_ok}
use Rattle.amqp_model.specs.Wire.Notes.{Role, Client, Server}
use Rattle.amqp_channel.specs.Events.Closes.{code_view}
use Rattle.amqp_channel.specs.Events.EventView.{agreed_view}
use Rattle.amqp_channel.specs.Verdict.VerdictView.{reply_kind}
use Rattle.amqp_core.specs.Config.Settings.{role_for, config_view}
use Rattle.amqp_core.specs.declared.owed.Owed.{Owed}
use Rattle.amqp_core.specs.declared.owed.Owed.TheVariants as code
use Rattle.amqp_core.specs.declared.settings.Settings.{Settings}

-- what one role alone puts in the handshake

abbrev pub starts : (role : Role) → Config role → List closes.Owed
starts Client config = []
starts Server config = on_zero (start config) ∷ []

abbrev pub answers_start : (role : Role) → Config role → List closes.Owed
answers_start Client config = on_zero (start_ok config) ∷ []
answers_start Server config = []

abbrev pub tunes : (role : Role) → Config role → List closes.Owed
tunes Client config = []
tunes Server config = on_zero (tune config) ∷ []

abbrev pub answers_tune : (role : Role) → Config role → channels.Agreed → List closes.Owed
answers_tune Client config agreed = on_zero (tune_ok agreed) ∷ on_zero (connection_open config) ∷ []
answers_tune Server config agreed = []

abbrev pub owed_view : Settings → Owed → List closes.Owed
owed_view settings code.Nothing = []
owed_view settings code.Start = starts (role_for settings) (config_view settings)
owed_view settings code.StartOk = answers_start (role_for settings) (config_view settings)
owed_view settings code.Tune = tunes (role_for settings) (config_view settings)
owed_view settings (code.TuneOkAndOpen agreed) =
    answers_tune (role_for settings) (config_view settings) (agreed_view agreed)
owed_view settings code.OpenOk = on_zero connection_open_ok ∷ []
owed_view settings (code.Close reason) = connection_close (code_view reason) ∷ []
owed_view settings code.CloseOk = connection_close_ok ∷ []
owed_view settings (code.OnChannel number reply) = map (on_channel number) (reply_to (Some (reply_kind reply)))
owed_view settings (code.ChannelClose number reason) = channel_close number (code_view reason) ∷ []

-- nothing is owed
abbrev pub IsNothing : Owed → Type 0
IsNothing code.Nothing = Unit {0}
IsNothing other = ⊥
