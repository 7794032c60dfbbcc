-- What is written reads as what it was made of: premises of the laws that speak of what an end puts. `Fitting` says
-- when they hold.
use Rattle.std.specs.Prelude.{◌≡◌, ℕ, length, Some}
use Rattle.amqp_method.specs.declared.kinds.Kind.TheVariants as kinds
use Rattle.amqp_method.specs.Fitting.{FitsShort}
use Rattle.amqp_model.specs.Wire.Notes.{Role, Client, Server}
use Rattle.amqp_model.specs.Wire.Methods.{Header, ReadsBack, header_at, plain_header}
use Rattle.amqp_model.specs.Wire.Contents.{Content}
use Rattle.amqp_model.specs.Wire.Readings.{Reading}
use Rattle.amqp_model.specs.End.Channels.{End}
use Rattle.amqp_model.specs.History.Negotiation.{Config, start, start_ok_choosing, tune, connection_open_ok}
use Rattle.amqp_model.specs.End.Closes.{FrameError, AllReadBack, close_as}
use Rattle.amqp_model.specs.End.Events.{Whole, Peer, Faults}
use Rattle.amqp_model.specs.End.FrameVerdict.{verdict_on, methods_put}
use Rattle.amqp_model.specs.End.Asks.{Ask, Send, CloseChannel, Close, Blocked, method_asked}
use Rattle.amqp_model.specs.End.Controls.{Control, Refuse, AnswerStart}
use Rattle.amqp_model.specs.End.EndVerdict.{facts_at}

-- the header of a content, as it is written
abbrev pub header_of : Content → Header
header_of content = record { body_size = length content.body; properties = content.properties }

abbrev pub HeaderAskedReadsBack : Ask → Type 0
HeaderAskedReadsBack (Send channel (Whole content)) =
    header_at (plain_header (header_of content)) ≡ Some (header_of content)
HeaderAskedReadsBack ask = Unit {0}

-- The text of a close, and the reason of a block, is a short string. The plain encoding of a longer one could read back
-- too, with a length that is no octet.
abbrev pub TextAskedFits : Ask → Type 0
TextAskedFits (CloseChannel channel code text cause) = FitsShort text
TextAskedFits (Close code text cause) = FitsShort text
TextAskedFits (Blocked reason) = FitsShort reason
TextAskedFits ask = Unit {0}

-- what is written for an ask reads back: its method, with a text that fits its field, and the header of its content
pub record AskReadsBack (ask : Ask) : Type 0 where
  pub method : ReadsBack (method_asked ask)
  pub header : HeaderAskedReadsBack ask
  pub text : TextAskedFits ask

-- What is written for a control reads back: the close of a refusal, with a text that fits its field, and a client's
-- answer to start. What a server admits with says its own configuration.
abbrev pub ControlReadsBack : (role : Role) → Config role → Control → Type 0
ControlReadsBack role config (Refuse code text) = ReadsBack (close_as kinds.ConnectionClose code text) × FitsShort text
ControlReadsBack Client config (AnswerStart mechanism response locale) =
    ReadsBack (start_ok_choosing config mechanism response locale)
ControlReadsBack role config control = Unit {0}

abbrev pub AdmissionReadsBack : (role : Role) → Config role → Type 0
AdmissionReadsBack Client config = Unit {0}
AdmissionReadsBack Server config = ReadsBack (tune config) × ReadsBack connection_open_ok

abbrev pub GreetingReadsBack : (role : Role) → Config role → Type 0
GreetingReadsBack Client config = Unit {0}
GreetingReadsBack Server config = ReadsBack (start config)

-- What an end of this configuration writes of itself reads back: what its verdicts put, and a server's start and
-- tune. It does where the configuration fits its fields, which is a law.
pub record WritesReadBack (role : Role) (config : Config role) : Type 0 where
  pub owed :
      (end : End) (number : ℕ) (reading : Reading)
      → AllReadBack (methods_put (facts_at config end number) (verdict_on (facts_at config end number) reading))
  pub too_large : (end : End) → AllReadBack (methods_put (facts_at config end 0) (Faults (Peer FrameError)))
  pub greeting : GreetingReadsBack role config
  pub admission : AdmissionReadsBack role config
