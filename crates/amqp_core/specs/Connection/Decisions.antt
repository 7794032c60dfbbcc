-- What is decided in the handshake, and by whom.
use Rattle.std.specs.Prelude.{◌≡◌, ◌⊎◌, Bool, true, false, ℕ, [], ◌∷◌}
use Rattle.amqp_model.specs.End.Asks.{Puts}
use Rattle.amqp_model.specs.End.Channels.{Channel, Phase, Handshake, HoldsStart, HoldsLogin, HoldsOpen}
use Rattle.amqp_model.specs.End.Closes.{method_frame}
use Rattle.amqp_model.specs.End.Controls.{Control, control_in}
use Rattle.amqp_model.specs.Wire.Frame.{Frame}
use Rattle.amqp_model.specs.History.Histories.{PutHere}
use Rattle.amqp_model.specs.End.Machine.{end_after}
use Rattle.amqp_model.specs.Wire.Methods.{Method, ReadsBack}
use Rattle.amqp_model.specs.History.Negotiation.{Config}
use Rattle.amqp_model.specs.Wire.Notes.{Role, is_client}
use Rattle.amqp_model.specs.End.ReadingBack.{ControlReadsBack}
use Rattle.amqp_model.specs.Wire.Readings.{Calls}
use Rattle.amqp_core.specs.Config.Settings.{config_view, role_for}
use Rattle.amqp_core.specs.Connection.Stages.{agreed_at, phase_at}
use Rattle.amqp_core.specs.declared.settings.Settings.{Settings}
use Rattle.amqp_core.specs.declared.stage.Stage.{Stage}

-- a server holds a login or an open
abbrev pub holds_client : Phase → Bool
holds_client (Handshake HoldsLogin) = true
holds_client (Handshake HoldsOpen) = true
holds_client phase = false

-- a client holds start
abbrev pub holds_start : Phase → Bool
holds_start (Handshake HoldsStart) = true
holds_start phase = false

-- a client, or an end that holds none
abbrev pub HoldsNone : Role → Phase → Type 0
HoldsNone role phase = (is_client role ≡ true) ⊎ (holds_client phase ≡ false)

-- This method is put of the control at a stage, and leaves the connection at another. No channel changes, nor what was
-- agreed. Where it reads back, so does what is written for the control.
pub record DecidesIn (role : Role) (config : Config role) (control : Control) (stage then : Stage)
    (method : Method) : Type 0 where
  pub puts : control_in role config (phase_at stage) control ≡ Puts (method_frame 0 method ∷ [])
  pub leaves :
      (channels : ℕ → Channel) (frame : Frame)
      → end_after role config 0 (PutHere (Calls method) frame)
      (record { phase = phase_at stage; agreed = agreed_at stage; channels = channels })
      ≡ record { phase = phase_at then; agreed = agreed_at then; channels = channels }
  pub agreed_same : agreed_at then ≡ agreed_at stage
  pub reads_back : ReadsBack method → ControlReadsBack role config control

abbrev pub Decides : Settings → Control → (stage then : Stage) → Method → Type 0
Decides settings control stage then method =
    DecidesIn (role_for settings) (config_view settings) control stage then method
