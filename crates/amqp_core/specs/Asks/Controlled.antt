-- What comes of a heartbeat, or of a decision in the handshake: it is accepted, and its frame is put; or it is refused,
-- and nothing changes.
use Rattle.std.specs.Prelude.{◌≡◌, List, [], Option, Some, None}
use Rattle.amqp_model.specs.End.Asks.{AskVerdict, Puts, Refusal, Refused}
use Rattle.amqp_model.specs.End.Channels.{End}
use Rattle.amqp_model.specs.End.Controls.{Control, control_verdict}
use Rattle.amqp_model.specs.Wire.Frame.{Frame}
use Rattle.amqp_model.specs.End.Machine.{end_after_put}
use Rattle.amqp_model.specs.Output.Outputs.{after_puts}
use Rattle.amqp_model.specs.End.ReadingBack.{ControlReadsBack}
use Rattle.amqp_outbox.specs.OutboxView.{Outgoing, only}
use Rattle.amqp_core.specs.Faults.Numbers.{refusal_view}
use Rattle.amqp_core.specs.Config.Settings.{config_view, role_for}
use Rattle.amqp_core.specs.declared.faults.AskFault.{AskFault}
use Rattle.amqp_core.specs.declared.settings.Settings.{Settings}

-- the frames that are put, if any
abbrev pub frames_by : AskVerdict → List Frame
frames_by (Puts frames) = frames
frames_by (Refused refusal) = []

-- the refusal, if it is one
abbrev pub refusal_by : AskVerdict → Option Refusal
refusal_by (Puts frames) = None
refusal_by (Refused refusal) = Some refusal

abbrev pub verdict_for : Settings → End → Control → AskVerdict
verdict_for settings end control = control_verdict (role_for settings) (config_view settings) end control

-- These frames are put, and the end is what they leave: no channel changes, nor what was agreed. What is written reads
-- back.
pub record PutsFrames (settings : Settings) (control : Control) (frames : List Frame) (before after : End)
    (old new : Outgoing) : Type 0 where
  pub puts : verdict_for settings before control ≡ Puts frames
  pub end_is : after ≡ end_after_put (role_for settings) (config_view settings) frames before
  pub agreed_same : after.agreed ≡ before.agreed
  pub channels_same : after.channels ≡ before.channels
  pub output_is : new ≡ only (after_puts frames old.output)
  pub reads_back : ControlReadsBack (role_for settings) (config_view settings) control

-- The control is accepted.
abbrev pub IsControlled : Settings → Control → (before after : End) (old new : Outgoing) → Type 0
IsControlled settings control before after old new =
    PutsFrames settings control (frames_by (verdict_for settings before control)) before after old new

-- the fault is the refusal that applies, or being out of memory, where none applies
abbrev pub RefusesFirst : Settings → Control → End → AskFault → Type 0
RefusesFirst settings control end fault = refusal_view fault ≡ refusal_by (verdict_for settings end control)

-- no refusal applies
abbrev pub IsAllowedControl : Settings → Control → End → Type 0
IsAllowedControl settings control end = refusal_by (verdict_for settings end control) ≡ None

-- The control is refused, and nothing changes.
pub record IsRefusedControl (settings : Settings) (control : Control) (fault : AskFault) (before after : End)
    (old new : Outgoing) : Type 0 where
  pub refused : RefusesFirst settings control before fault
  pub end_same : after ≡ before
  pub output_same : new ≡ old
