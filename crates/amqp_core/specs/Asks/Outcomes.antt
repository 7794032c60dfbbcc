-- What comes of an ask: it is accepted, and its frames are put; or it is refused, and nothing changes.
use Rattle.std.specs.Prelude.{◌≡◌, true, ℕ, List, Option, None}
use Rattle.amqp_method.specs.Arguments.{Argument, Call}
use Rattle.amqp_method.specs.Messages.{letter_with}
use Rattle.amqp_model.specs.End.Asks.{Ask, Open, Send, refusal, frames_asked, lowest_free, is_made}
use Rattle.amqp_model.specs.End.Channels.{End}
use Rattle.amqp_model.specs.End.Machine.{end_after_put}
use Rattle.amqp_model.specs.Output.Outputs.{after_puts}
use Rattle.amqp_model.specs.End.ReadingBack.{AskReadsBack}
use Rattle.amqp_channel.specs.Events.EventView.{message_of}
use Rattle.amqp_outbox.specs.OutboxView.{Outgoing, only}
use Rattle.amqp_core.specs.Faults.Numbers.{refusal_view}
use Rattle.amqp_core.specs.Config.Settings.{config_view, role_for}
use Rattle.amqp_core.specs.declared.faults.AskFault.{AskFault}
use Rattle.amqp_core.specs.declared.settings.Settings.{Settings}

-- the ask that sends a method and its content
abbrev pub content_asked : (channel : ℕ) → Call → (properties : List (Option Argument)) → (body : List ℕ) → Ask
content_asked channel call properties body = Send channel (message_of (letter_with call properties body))

-- no refusal applies
abbrev pub IsAllowed : Settings → End → Ask → Type 0
IsAllowed settings end ask = refusal (role_for settings) end ask ≡ None

-- the fault is the first refusal that applies, or being out of memory, where none applies
abbrev pub IsRefusal : Settings → End → Ask → AskFault → Type 0
IsRefusal settings end ask fault = refusal_view fault ≡ refusal (role_for settings) end ask

-- No refusal applies. The frames of the ask are put, and the end is what they leave. They read back.
pub record IsAccepted (settings : Settings) (ask : Ask) (before after : End) (old new : Outgoing) : Type 0 where
  pub allowed : IsAllowed settings before ask
  pub end_is : after ≡ end_after_put (role_for settings) (config_view settings) (frames_asked before ask) before
  pub output_is : new ≡ only (after_puts (frames_asked before ask) old.output)
  pub reads_back : AskReadsBack ask
  pub made : is_made ask ≡ true

-- The ask is refused, and nothing changes.
pub record IsRefused (settings : Settings) (ask : Ask) (fault : AskFault) (before after : End)
    (old new : Outgoing) : Type 0 where
  pub refused : IsRefusal settings before ask fault
  pub end_same : after ≡ before
  pub output_same : new ≡ old

-- the channel that an open takes; other asks take none
abbrev pub number_taken : End → Ask → Option ℕ
number_taken end Open = lowest_free end
number_taken end ask = None
