-- An ask that is passed on, in the words of the model.
use Rattle.std.specs.Prelude.{Bool, true, false, Option, Some, None}
use Rattle.amqp_model.specs.End.Asks.{Ask, CloseChannel, Close}
use Rattle.amqp_model.specs.End.Closes.{Cause, cause_of, no_cause}
use Rattle.amqp_model.specs.Wire.Methods.{MethodKind}
use Rattle.amqp_core.specs.Asks.View.{ask_view}
use Rattle.example_loop.specs.Gathering.{sent_on}
use Rattle.example_loop.specs.declared.asking.Asking.TheVariants as asking
use Rattle.example_loop.specs.declared.asking.Asking.{Asking}

-- a method of this kind is the cause, if one is
abbrev pub cause_by : Option MethodKind → Cause
cause_by (Some kind) = cause_of kind
cause_by None = no_cause

-- a close is about a method of this kind, or about none
abbrev pub about_kind : Option MethodKind → Ask → Ask
about_kind about (CloseChannel channel code text cause) = CloseChannel channel code text (cause_by about)
about_kind about (Close code text cause) = Close code text (cause_by about)
about_kind about ask = ask

abbrev pub asking_view : Asking → Ask
asking_view (asking.Plain ask about) = about_kind about (ask_view ask)
asking_view (asking.Content channel content) = sent_on channel content

abbrev pub ask_there : Option Asking → Option Ask
ask_there (Some ask) = Some (asking_view ask)
ask_there None = None

abbrev pub closes : Ask → Bool
closes (CloseChannel channel code text cause) = true
closes (Close code text cause) = true
closes ask = false
