-- What an application asks of an end: the refusals in their order, of which the first that applies is answered, and
-- what an accepted ask puts. `amqp0-9-1.xml`: channel.open, flow and close, connection.close; the rest is this
-- profile's.
use Rattle.std.specs.Prelude.{Bool, true, false, not, ◌&&◌, ◌||◌, ℕ, zero, suc, ◌+◌, ◌==◌, nat_lt}
use Rattle.std.specs.Prelude.{List, [], ◌∷◌, map, length, Option, Some, None}
use Rattle.amqp_frame.specs.declared.frames.FrameKind.{FrameKind}
use Rattle.amqp_method.specs.declared.kinds.Kind.TheVariants as kinds
use Rattle.amqp_model.specs.Wire.Frame.{Frame}
use Rattle.amqp_model.specs.Wire.Notes.{Role, Client, Server, is_client}
use Rattle.amqp_method.specs.Arguments.{short_string}
use Rattle.amqp_model.specs.Wire.Methods.{MethodKind, Method, carries_content, class_of, same_kind, sends, is_request}
use Rattle.amqp_model.specs.Wire.Methods.{is_reply, plain_method, plain_header}
use Rattle.amqp_model.specs.Wire.Contents as contents
use Rattle.amqp_model.specs.Wire.Contents.{Content, Payload, Unread, cut}
use Rattle.amqp_model.specs.End.Channels as channels
use Rattle.amqp_model.specs.End.Channels.{Life, Channel, Phase, Running, Agreed, End}
use Rattle.amqp_model.specs.End.Closes.{Cause, close_for, without_arguments, flow_as, method_frame}
use Rattle.amqp_model.specs.End.Events.{Message, Plain, Whole, method_of}
use Rattle.amqp_model.specs.End.FrameVerdict.{answers_first}

pub data Ask : Type 0 where
  Open : Ask
  Send : (channel : ℕ) → Message → Ask
  Flow : (channel : ℕ) (active : Bool) → Ask
  CloseChannel : (channel code : ℕ) (text : List ℕ) → Cause → Ask
  Close : (code : ℕ) (text : List ℕ) → Cause → Ask
  Blocked : (reason : List ℕ) → Ask
  Unblocked : Ask

-- Out of memory, which is 9, stands after these, and is no matter of the asks. That no decision is awaited is no answer
-- to an ask, but to what else an application does with the connection.
pub data Refusal : Type 0 where
  NotRunning BadChannel NotOpen Paused NotSendable TooLarge FlowPending NoFreeChannel : Refusal
  ReplyPending NoSuchRequest NotAwaited : Refusal

abbrev pub refusal_number : Refusal → ℕ
refusal_number NotRunning = 1
refusal_number BadChannel = 2
refusal_number NotOpen = 3
refusal_number Paused = 4
refusal_number NotSendable = 5
refusal_number TooLarge = 6
refusal_number FlowPending = 7
refusal_number NoFreeChannel = 8
refusal_number ReplyPending = 10
refusal_number NoSuchRequest = 11
refusal_number NotAwaited = 12

-- a message without content has a method that carries none, a content one that carries it
abbrev pub is_made : Ask → Bool
is_made (Send channel (Plain method)) = not (carries_content method)
is_made (Send channel (Whole content)) = carries_content content.method
is_made ask = true

-- What the asks look at.

abbrev pub is_running : Phase → Bool
is_running Running = true
is_running phase = false

abbrev pub channel_max : Option Agreed → ℕ
channel_max (Some agreed) = agreed.channel_max
channel_max None = 0

abbrev pub frame_max : Option Agreed → ℕ
frame_max (Some agreed) = agreed.frame_max
frame_max None = 0

-- the channel that an ask speaks of
abbrev channel_asked : Ask → Option ℕ
channel_asked (Send channel message) = Some channel
channel_asked (Flow channel active) = Some channel
channel_asked (CloseChannel channel code text cause) = Some channel
channel_asked ask = None

abbrev pub life_of : Channel → Option Life
life_of (channels.Open life) = Some life
life_of channel = None

abbrev pub is_free : Channel → Bool
is_free channels.Free = true
is_free channel = false

-- the first Free number of so many, counted up from one
abbrev pub first_free : (channels : ℕ → Channel) (many from : ℕ) → Option ℕ
first_free channels zero from = None
first_free channels (suc many) from =
    elim (is_free (channels from)) [ true ↦ Some from | false ↦ first_free channels many (suc from) ]

-- the lowest Free number up to the agreed maximum
abbrev pub lowest_free : End → Option ℕ
lowest_free end = first_free end.channels (channel_max end.agreed) 1

-- The refusals, each with when it applies.

abbrev pub when : Bool → Refusal → Option Refusal
when true refusal = Some refusal
when false refusal = None

abbrev pub first_refusal : List (Option Refusal) → Option Refusal
first_refusal [] = None
first_refusal (Some refusal ∷ later) = Some refusal
first_refusal (None ∷ later) = first_refusal later

-- the phase is not Running
abbrev pub not_running : End → Option Refusal
not_running end = when (not (is_running end.phase)) NotRunning

abbrev pub bad_number : End → Option ℕ → Bool
bad_number end (Some number) = (number == 0) || nat_lt (channel_max end.agreed) number
bad_number end None = false

-- the number is 0 or above the agreed maximum
abbrev pub bad_channel : End → Ask → Option Refusal
bad_channel end ask = when (bad_number end (channel_asked ask)) BadChannel

abbrev pub lacks_life : Option Life → Bool
lacks_life (Some life) = false
lacks_life None = true

abbrev pub is_not_open : End → Option ℕ → Bool
is_not_open end None = false
is_not_open end (Some number) = lacks_life (life_of (end.channels number))

-- the channel is not Open
abbrev pub not_open : End → Ask → Option Refusal
not_open end ask = when (is_not_open end (channel_asked ask)) NotOpen

-- a life that the channel has, and a word that reads it; where it has none the word does not hold
abbrev pub in_life : Option Life → (Life → Bool) → Bool
in_life (Some life) word = word life
in_life None word = false

-- a content that a paused end may not begin
abbrev pub is_pausable : Message → Bool
is_pausable (Plain method) = false
is_pausable (Whole content) = not (same_kind content.method.kind kinds.BasicGetOk)

-- the other end paused this one in this life, and the message is a content other than get-ok
abbrev pub paused : End → Ask → Option Refusal
paused end (Send channel message) =
    when (is_pausable message && in_life (life_of (end.channels channel)) (λ life. life.paused)) Paused
paused end ask = None

-- the methods of the connection and of the opening, closing and flow of a channel are not sent as messages
abbrev pub is_sendable : Role → MethodKind → Bool
is_sendable role kind = sends (is_client role) kind && not (class_of kind == 10) && not (class_of kind == 20)

-- a kind that this end may not send; an open at a server, blocked and unblocked at a client
abbrev pub not_sendable : Role → Ask → Option Refusal
not_sendable role (Send channel message) = when (not (is_sendable role (method_of message).kind)) NotSendable
not_sendable Server Open = Some NotSendable
not_sendable Client (Blocked reason) = Some NotSendable
not_sendable Client Unblocked = Some NotSendable
not_sendable role ask = None

-- eight octets of a frame stand around its payload
abbrev passes : Option Agreed → List ℕ → Bool
passes agreed payload = nat_lt (frame_max agreed) (length payload + 8)

abbrev header_octets : Content → List ℕ
header_octets content = plain_header (record { body_size = length content.body; properties = content.properties })

abbrev message_passes : Option Agreed → Message → Bool
message_passes agreed (Plain method) = passes agreed (plain_method method)
message_passes agreed (Whole content) =
    passes agreed (plain_method content.method) || passes agreed (header_octets content)

-- the payload of the method or of the header does not fit a frame
abbrev pub too_large : End → Ask → Option Refusal
too_large end (Send channel message) = when (message_passes end.agreed message) TooLarge
too_large end ask = None

-- this end's last flow of this life is unanswered
abbrev pub flow_pending : End → Ask → Option Refusal
flow_pending end (Flow channel active) =
    when (in_life (life_of (end.channels channel)) (λ life. life.awaits)) FlowPending
flow_pending end ask = None

-- no number up to the agreed maximum is Free
abbrev pub none_free : Option ℕ → Option Refusal
none_free (Some number) = None
none_free None = Some NoFreeChannel

abbrev pub no_free_channel : End → Ask → Option Refusal
no_free_channel end Open = none_free (lowest_free end)
no_free_channel end ask = None

abbrev has_request : Life → Bool
has_request life = nat_lt 0 (length life.requests)

-- a client's request, while one waits
abbrev pub reply_pending : Role → End → Ask → Option Refusal
reply_pending Client end (Send channel message) =
    when (is_request (method_of message) && in_life (life_of (end.channels channel)) has_request) ReplyPending
reply_pending role end ask = None

-- a server's reply that does not answer the oldest request kept, or where none is
abbrev pub no_such_request : Role → End → Ask → Option Refusal
no_such_request Server end (Send channel message) =
    when
    (is_reply (method_of message).kind && in_life (life_of (end.channels channel))
    (λ life. not (answers_first (method_of message).kind life.requests)))
    NoSuchRequest
no_such_request role end ask = None

-- the first refusal that applies
abbrev pub refusal : Role → End → Ask → Option Refusal
refusal role end ask =
    first_refusal
    (not_running end
    ∷ bad_channel end ask
    ∷ not_open end ask
    ∷ paused end ask
    ∷ not_sendable role ask
    ∷ too_large end ask
    ∷ flow_pending end ask
    ∷ no_free_channel end ask
    ∷ reply_pending role end ask
    ∷ no_such_request role end ask
    ∷ [])

-- What an accepted ask puts.

-- the frame of a payload that an end writes
abbrev pub payload_frame : (channel : ℕ) → Payload → Frame
payload_frame channel (contents.Calls method) = method_frame channel method
payload_frame channel (contents.Header size properties) =
    record {
      kind = FrameKind.Header;
      channel = channel;
      payload = plain_header (record { body_size = size; properties = properties });
    }
payload_frame channel (contents.Body octets) = record { kind = FrameKind.Body; channel = channel; payload = octets }
payload_frame channel Unread = record { kind = FrameKind.Heartbeat; channel = channel; payload = [] }

-- one method frame, or a content cut to the agreed frame size
abbrev pub message_payloads : (max : ℕ) → Message → List Payload
message_payloads max (Plain method) = contents.Calls method ∷ []
message_payloads max (Whole content) = cut max content

-- the method that an ask puts
abbrev pub method_asked : Ask → Method
method_asked Open = without_arguments kinds.ChannelOpen
method_asked (Send channel message) = method_of message
method_asked (Flow channel active) = flow_as kinds.ChannelFlow active
method_asked (CloseChannel channel code text cause) = close_for kinds.ChannelClose code text cause
method_asked (Close code text cause) = close_for kinds.ConnectionClose code text cause
method_asked (Blocked reason) = record { kind = kinds.ConnectionBlocked; args = short_string reason ∷ [] }
method_asked Unblocked = without_arguments kinds.ConnectionUnblocked

abbrev one_method : ℕ → Method → List Frame
one_method channel method = method_frame channel method ∷ []

abbrev pub opens_on : Option ℕ → List Frame
opens_on (Some channel) = one_method channel (without_arguments kinds.ChannelOpen)
opens_on None = []

-- the frames of an ask, the oldest first
abbrev pub frames_asked : End → Ask → List Frame
frames_asked end Open = opens_on (lowest_free end)
frames_asked end (Send channel message) = map (payload_frame channel) (message_payloads (frame_max end.agreed) message)
frames_asked end (Flow channel active) = one_method channel (method_asked (Flow channel active))
frames_asked end (CloseChannel channel code text cause) =
    one_method channel (method_asked (CloseChannel channel code text cause))
frames_asked end (Close code text cause) = one_method 0 (method_asked (Close code text cause))
frames_asked end (Blocked reason) = one_method 0 (method_asked (Blocked reason))
frames_asked end Unblocked = one_method 0 (method_asked Unblocked)

-- what comes of an ask: it is refused, or these frames are put
pub data AskVerdict : Type 0 where
  Refused : Refusal → AskVerdict
  Puts : List Frame → AskVerdict

abbrev pub refused_or_put : Option Refusal → List Frame → AskVerdict
refused_or_put (Some refusal) frames = Refused refusal
refused_or_put None frames = Puts frames

abbrev pub ask_verdict : Role → End → Ask → AskVerdict
ask_verdict role end ask = refused_or_put (refusal role end ask) (frames_asked end ask)
