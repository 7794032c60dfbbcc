-- What fits its fields: methods and content headers, what an end is set up with, what was agreed, and what an
-- application asks. The fields are those of `amqp0-9-1.xml` and of the AMQP 0-9-1 specification, section 4.2.6.1; the
-- limits of a configuration are this profile's.
use Rattle.std.specs.Prelude.{◌≡◌, ◌<◌, ◌≤◌, ◌^◌, true, cond, ◌||◌, ◌==◌, nat_lt, ℕ}
use Rattle.std.specs.Prelude.{Option, Some, None}
use Rattle.amqp_frame.specs.Frame.{frame_length}
use Rattle.amqp_method.specs.Arguments.{Fits}
use Rattle.amqp_method.specs.Fitting.{AreOctets, FitsShort, FitsLong, TableFits, ArgumentsFit, PropertiesFit}
use Rattle.amqp_method.specs.Properties.{HaveKinds, property_kinds}
use Rattle.amqp_model.specs.Wire.Notes.{Role, Client, Server}
use Rattle.amqp_model.specs.Wire.Methods.{Method, Header, ReadsBack}
use Rattle.amqp_model.specs.Wire.Contents.{Content}
use Rattle.amqp_model.specs.End.Channels.{Agreed}
use Rattle.amqp_model.specs.History.Negotiation.{Hello, OfClient, OfServer, Config, FRAME_MIN, start, start_ok}
use Rattle.amqp_model.specs.End.Closes.{Cause, method_frame}
use Rattle.amqp_model.specs.End.Events.{Message, Plain, Whole}
use Rattle.amqp_model.specs.End.ReadingBack.{header_of}
use Rattle.amqp_model.specs.End.Asks.{Ask, Open, Send, Flow, CloseChannel, Close, Blocked, Unblocked, is_made}
use Rattle.amqp_model.specs.End.Asks.{channel_max, frame_max}
use Rattle.amqp_model.specs.End.Controls.{Control, Beat, Admit, Refuse, AnswerStart}

-- the arguments are those of the method's kind, and each fits its field
pub record MethodFits (method : Method) : Type 0 where
  pub of_kind : Fits method
  pub arguments : ArgumentsFit method.args

-- the body's size is below 2^64, and each property is of its kind and fits its field
pub record HeaderFits (header : Header) : Type 0 where
  pub size : header.body_size < 2 ^ 64
  pub of_kinds : HaveKinds header.properties property_kinds
  pub properties : PropertiesFit header.properties

-- each table and each string of a hello fits its field
abbrev pub HelloFits : {role : Role} → Hello role → Type 0
HelloFits (OfClient properties mechanism response locale virtual_host) =
    TableFits properties × FitsShort mechanism × FitsLong response × FitsShort locale × FitsShort virtual_host
HelloFits (OfServer properties mechanisms locales) = TableFits properties × FitsLong mechanisms × FitsLong locales

-- the method that has an end's properties: the client's start-ok, the server's start
abbrev pub greeting : (role : Role) → Config role → Method
greeting Client config = start_ok config
greeting Server config = start config

-- the greatest frame that an end may be set up to take
abbrev pub FRAME_MOST : ℕ
FRAME_MOST = 1048576

-- an end takes channels from 1 up to 65535 at most and frames from 4096 up to 1048576 octets at most, its heartbeat
-- and its hello fit their fields, and its greeting fits a frame of 4096 octets
pub record ConfigFits {role : Role} (config : Config role) : Type 0 where
  pub channel_least : 1 ≤ config.channel_max
  pub channel_most : config.channel_max < 2 ^ 16
  pub frame_least : FRAME_MIN ≤ config.frame_max
  pub frame_most : config.frame_max ≤ FRAME_MOST
  pub body_most : config.max_body < 2 ^ 64
  pub heartbeat_most : config.heartbeat < 2 ^ 16
  pub hello : HelloFits config.hello
  pub greeting_short : frame_length (method_frame 0 (greeting role config)) ≤ FRAME_MIN

-- why an end can't be set up so
pub data ConfigFault : Type 0 where
  FrameMax ChannelMax HelloTooLong : ConfigFault

-- the first that applies: the greatest frame is below 4096 octets or above 1048576; there is no channel; the greeting
-- is longer than a frame of 4096 octets
abbrev pub config_fault : (role : Role) → Config role → Option ConfigFault
config_fault role config =
    cond (nat_lt config.frame_max FRAME_MIN || nat_lt FRAME_MOST config.frame_max) (Some FrameMax)
    (cond (config.channel_max == 0) (Some ChannelMax)
    (cond (nat_lt FRAME_MIN (frame_length (method_frame 0 (greeting role config)))) (Some HelloTooLong) None))

-- the client's virtual host fits its field
abbrev pub HostFits : {role : Role} → Hello role → Type 0
HostFits (OfClient properties mechanism response locale virtual_host) = FitsShort virtual_host
HostFits (OfServer properties mechanisms locales) = Unit {0}

-- What an end says of itself can be written: its greeting reads back, and the rest fits its fields. So it is where the
-- configuration fits its fields; and where the greeting was written once, since what was written is encoded.
pub record ConfigWrites {role : Role} (config : Config role) : Type 0 where
  pub channel_least : 1 ≤ config.channel_max
  pub channel_most : config.channel_max < 2 ^ 16
  pub frame_least : FRAME_MIN ≤ config.frame_max
  pub frame_most : config.frame_max ≤ FRAME_MOST
  pub heartbeat_most : config.heartbeat < 2 ^ 16
  pub host : HostFits config.hello
  pub greeting_back : ReadsBack (greeting role config)
  pub greeting_short : frame_length (method_frame 0 (greeting role config)) ≤ FRAME_MIN

-- a channel number up to the agreed maximum fits its field, and no agreed frame is longer than an end may take
pub record AgreedFits (agreed : Option Agreed) : Type 0 where
  pub channel_most : channel_max agreed < 2 ^ 16
  pub frame_most : frame_max agreed ≤ FRAME_MOST

-- what two ends may settle: some channel, as many as fit their field, and a frame size within the limits
pub record SettledFits (agreed : Agreed) : Type 0 where
  pub channel_least : 1 ≤ agreed.channel_max
  pub channel_most : agreed.channel_max < 2 ^ 16
  pub frame_least : FRAME_MIN ≤ agreed.frame_max
  pub frame_most : agreed.frame_max ≤ FRAME_MOST

-- the same, where anything is agreed yet
abbrev pub IfAgreedFits : Option Agreed → Type 0
IfAgreedFits None = Unit {0}
IfAgreedFits (Some agreed) = SettledFits agreed

-- the method and the header of a content fit their fields, and its body is octets
pub record ContentFits (content : Content) : Type 0 where
  pub method : MethodFits content.method
  pub header : HeaderFits (header_of content)
  pub body : AreOctets content.body

-- the method of a message fits its fields, and so does its content, if it has one
abbrev MessageFits : Message → Type 0
MessageFits (Plain method) = MethodFits method
MessageFits (Whole content) = ContentFits content

-- the class and the method that a close is about fit their fields
pub record CauseFits (cause : Cause) : Type 0 where
  pub class_id : cause.class_id < 2 ^ 16
  pub method_id : cause.method_id < 2 ^ 16

-- each number, string and message in an ask fits its field
abbrev pub PartsFit : Ask → Type 0
PartsFit Open = Unit {0}
PartsFit (Send channel message) = (channel < 2 ^ 16) × MessageFits message
PartsFit (Flow channel active) = channel < 2 ^ 16
PartsFit (CloseChannel channel code text cause) =
    (channel < 2 ^ 16) × (code < 2 ^ 16) × FitsShort text × CauseFits cause
PartsFit (Close code text cause) = (code < 2 ^ 16) × FitsShort text × CauseFits cause
PartsFit (Blocked reason) = FitsShort reason
PartsFit Unblocked = Unit {0}

-- so does each number and string of what else an application does with the connection
abbrev pub ControlFits : Control → Type 0
ControlFits Beat = Unit {0}
ControlFits Admit = Unit {0}
ControlFits (Refuse code text) = (code < 2 ^ 16) × FitsShort text
ControlFits (AnswerStart mechanism response locale) = FitsShort mechanism × FitsLong response × FitsShort locale

-- an ask fits its fields, and a message has a content exactly when its method carries one
pub record AskFits (ask : Ask) : Type 0 where
  pub made : is_made ask ≡ true
  pub parts : PartsFit ask
