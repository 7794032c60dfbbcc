-- What was wrong, where an end finds fault: one name for each way to it. AMQP 0-9-1 specification, sections 2.2.4 to
-- 2.2.7 and 4.2, and `amqp0-9-1.xml`, the constants with reply codes. The rules and their order are those of the
-- verdict on a frame, which is this profile's; here each is told apart from the others that earn the same code.
use Rattle.std.specs.Prelude.{Bool, cond, not, ◌&&◌, ◌==◌, nat_lt, nat_le, ℕ, List, [], ◌∷◌, length}
use Rattle.std.specs.Prelude.{Option, Some, None, Result, Ok, Err}
use Rattle.amqp_frame.specs.declared.faults.FrameFaultKind.{FrameFaultKind}
use Rattle.amqp_frame.specs.declared.faults.FrameFaultKind.TheVariants as octets
use Rattle.amqp_frame.specs.declared.frames.FrameKind.{FrameKind}
use Rattle.amqp_frame.specs.declared.frames.FrameKind.TheVariants as frames
use Rattle.amqp_method.specs.HeaderReading as header_reading
use Rattle.amqp_method.specs.Ids.{kind_of_ids}
use Rattle.amqp_method.specs.Reading as method_reading
use Rattle.amqp_method.specs.declared.faults.MethodFault.{MethodFault}
use Rattle.amqp_method.specs.declared.kinds.Kind.TheVariants as kinds
use Rattle.amqp_model.specs.Wire.Frame.{Frame}
use Rattle.amqp_model.specs.Wire.Notes.{Role, Client, Server, is_client, Kind, Open, OpenOk, Close, Flow, FlowOk, Other}
use Rattle.amqp_model.specs.History.States.{State}
use Rattle.amqp_model.specs.Wire.Methods.{MethodKind, Method, class_of, same_kind, sends, is_request, is_reply}
use Rattle.amqp_model.specs.Wire.Gathering.{Gathering, Nothing, HeaderDue, BodyDue, Misfit, NothingBegun, HeaderAwaited}
use Rattle.amqp_model.specs.Wire.Gathering.{BodyAwaited, PastSize, MethodInside, NotRead, Step, Keeps, Completes}
use Rattle.amqp_model.specs.Wire.Gathering.{Breaks, step}
use Rattle.amqp_model.specs.Wire.Readings.{Reading, Calls, UnknownMethod, MalformedMethod, HeaderOf, MalformedHeader}
use Rattle.amqp_model.specs.Wire.Readings.{BodyOf, Beat, reading, kind_of, payload_of}
use Rattle.amqp_model.specs.End.Channels as channels
use Rattle.amqp_model.specs.End.Channels.{Life, Channel, state_of, Phase, Handshake, Closed, Failed, HandshakeStep}
use Rattle.amqp_model.specs.End.Channels.{AwaitsStart, AwaitsStartOk, AwaitsTune, AwaitsTuneOk, AwaitsOpen}
use Rattle.amqp_model.specs.End.Channels.{AwaitsOpenOk}
use Rattle.amqp_model.specs.History.Negotiation.{Config, tunes_too_small, agreed_in, in_range}
use Rattle.amqp_model.specs.End.Closes.{FrameError, SyntaxError, CommandInvalid, ChannelError, UnexpectedFrame}
use Rattle.amqp_model.specs.End.Closes.{ResourceError, NotImplemented, number_of}
use Rattle.amqp_model.specs.End.Events.{Fault, Peer, Fatal, WrongProtocolHeader}
use Rattle.amqp_model.specs.End.FrameVerdict.{Facts, MOST_REQUESTS, is_awaited, awaits_in, is_no_channel, answers_first}

pub data Rule : Type 0 where
  -- octets: a frame above the limit, a type that there isn't, another end octet, another protocol header
  FrameTooLarge FrameTypeUnknown FrameEndWrong ProtocolHeaderWrong : Rule
  -- a heartbeat on another channel than 0, or with a payload
  HeartbeatOffZero HeartbeatNotEmpty : Rule
  -- a method that there isn't, and one that does not parse
  MethodUnknown MethodMalformed : Rule
  -- in the handshake: a method on another channel than 0, no method at all, secure, another method than the awaited
  -- one, a tune with a frame size too small, a tune-ok out of range
  HandshakeOffZero HandshakeNoMethod SecureNotThere HandshakeOutOfOrder TuneTooSmall TuneOkOutOfRange : Rule
  -- a part of a content on channel 0 or above the agreed maximum, on a channel that is not Open, a header that does
  -- not parse, a part where no content is begun, body where the header is due, a header where body is due, a header
  -- that does not parse where body is due or no content is begun, body past its size
  ContentOffChannel ContentNotOpen HeaderMalformed ContentNotBegun BodyForHeader HeaderForBody ContentUnread : Rule
  BodyPastSize : Rule
  -- a method of the class connection on another channel than 0, and another than those that come after the handshake
  ConnectionOffZero ConnectionOutOfOrder : Rule
  -- a method that the other end may not send; one on channel 0 or above the agreed maximum; one on a channel that is
  -- not Open; one where the header of a content is due, or its body
  MethodMisdirected MethodOffChannel MethodNotOpen MethodForHeader MethodForBody : Rule
  -- an open of a channel that is Open; another method of the class channel out of order; a flow-ok without its flow
  OpenedAgain ChannelOutOfOrder FlowOkUnasked : Rule
  -- a reply without its request, and a request too many
  ReplyUnasked RequestTooMany : Rule

-- the fault that breaking a rule is
abbrev pub fault_of : Rule → Fault
fault_of FrameTooLarge = Peer FrameError
fault_of FrameTypeUnknown = Fatal
fault_of FrameEndWrong = Fatal
fault_of ProtocolHeaderWrong = WrongProtocolHeader
fault_of HeartbeatOffZero = Peer FrameError
fault_of HeartbeatNotEmpty = Peer FrameError
fault_of MethodUnknown = Peer NotImplemented
fault_of MethodMalformed = Peer SyntaxError
fault_of HandshakeOffZero = Peer CommandInvalid
fault_of HandshakeNoMethod = Peer CommandInvalid
fault_of SecureNotThere = Peer NotImplemented
fault_of HandshakeOutOfOrder = Peer CommandInvalid
fault_of TuneTooSmall = Peer FrameError
fault_of TuneOkOutOfRange = Fatal
fault_of ContentOffChannel = Peer ChannelError
fault_of ContentNotOpen = Peer ChannelError
fault_of HeaderMalformed = Peer SyntaxError
fault_of ContentNotBegun = Peer UnexpectedFrame
fault_of BodyForHeader = Peer UnexpectedFrame
fault_of HeaderForBody = Peer UnexpectedFrame
fault_of ContentUnread = Peer UnexpectedFrame
fault_of BodyPastSize = Peer FrameError
fault_of ConnectionOffZero = Peer CommandInvalid
fault_of ConnectionOutOfOrder = Peer CommandInvalid
fault_of MethodMisdirected = Peer CommandInvalid
fault_of MethodOffChannel = Peer ChannelError
fault_of MethodNotOpen = Peer ChannelError
fault_of MethodForHeader = Peer UnexpectedFrame
fault_of MethodForBody = Peer UnexpectedFrame
fault_of OpenedAgain = Peer ChannelError
fault_of ChannelOutOfOrder = Peer CommandInvalid
fault_of FlowOkUnasked = Peer CommandInvalid
fault_of ReplyUnasked = Peer CommandInvalid
fault_of RequestTooMany = Peer ResourceError

abbrev code_in : Fault → Option ℕ
code_in (Peer code) = Some (number_of code)
code_in fault = None

-- the code with which the connection is closed, where it is
abbrev pub code_of : Rule → Option ℕ
code_of rule = code_in (fault_of rule)

-- the rule that octets break, where it is not memory that was refused, nor an earlier fault
abbrev pub rule_of_octets : FrameFaultKind → Option Rule
rule_of_octets octets.TooLarge = Some FrameTooLarge
rule_of_octets octets.UnknownType = Some FrameTypeUnknown
rule_of_octets octets.BadEnd = Some FrameEndWrong
rule_of_octets octets.OutOfMemory = None
rule_of_octets octets.Failed = None

-- What is found by a rule of the verdict where it applies: no fault, or this one.
abbrev pub Finding : Type 0
Finding = Option Rule

-- what the first rule that applies finds, or the last
abbrev pub first_finding : List (Option Finding) → Finding → Finding
first_finding [] last = last
first_finding (Some finding ∷ later) last = finding
first_finding (None ∷ later) last = first_finding later last

-- where a connection is over, or this end has put connection.close, no rule is broken
abbrev pub over_finding : Phase → Option Finding
over_finding Closed = Some None
over_finding Failed = Some None
over_finding phase = None

abbrev pub leaving_finding : Phase → Option Finding
leaving_finding Phase.Closing = Some None
leaving_finding phase = None

abbrev pub heartbeat_finding : (number : ℕ) → Reading → Option Finding
heartbeat_finding number (Beat empty) =
    Some (cond (number == 0) (cond empty None (Some HeartbeatNotEmpty)) (Some HeartbeatOffZero))
heartbeat_finding number reading = None

-- nor where it has put channel.close on the channel
abbrev pub closing_finding : Channel → Option Finding
closing_finding channels.Closing = Some None
closing_finding channel = None

abbrev pub unread_finding : Reading → Option Finding
unread_finding UnknownMethod = Some (Some MethodUnknown)
unread_finding MalformedMethod = Some (Some MethodMalformed)
unread_finding reading = None

-- The handshake.
abbrev pub awaited_finding : (role : Role) → Config role → HandshakeStep → Method → Finding
awaited_finding Client config AwaitsStart method = None
awaited_finding Client config AwaitsTune method = cond (tunes_too_small method) (Some TuneTooSmall) None
awaited_finding Client config AwaitsOpenOk method = None
awaited_finding Server config AwaitsStartOk method = None
awaited_finding Server config AwaitsTuneOk method =
    cond (in_range config (agreed_in method)) None (Some TuneOkOutOfRange)
awaited_finding Server config AwaitsOpen method = None
awaited_finding role config step method = Some HandshakeOutOfOrder

abbrev step_finding : (role : Role) → Config role → HandshakeStep → Method → Finding
step_finding role config step method =
    cond (same_kind method.kind kinds.ConnectionClose) None
    (cond (is_client role && same_kind method.kind kinds.ConnectionSecure) (Some SecureNotThere)
    (cond (is_awaited step method.kind) (awaited_finding role config step method) (Some HandshakeOutOfOrder)))

abbrev pub handshake_finding : {role : Role} → Facts role → Phase → Reading → Option Finding
handshake_finding {role} facts (Handshake step) (Calls method) =
    Some (cond (facts.number == 0) (step_finding role facts.config step method) (Some HandshakeOffZero))
handshake_finding facts (Handshake step) reading = Some (Some HandshakeNoMethod)
handshake_finding facts phase reading = None

-- A part of a content.
abbrev pub rule_of_misfit : Misfit → Rule
rule_of_misfit NothingBegun = ContentNotBegun
rule_of_misfit HeaderAwaited = BodyForHeader
rule_of_misfit BodyAwaited = HeaderForBody
rule_of_misfit PastSize = BodyPastSize
rule_of_misfit MethodInside = MethodForBody
rule_of_misfit NotRead = ContentUnread

abbrev pub step_of_content_finding : Step → Finding
step_of_content_finding (Completes content) = None
step_of_content_finding (Keeps kept) = None
step_of_content_finding (Breaks misfit) = Some (rule_of_misfit misfit)

-- a header past the greatest body costs the channel, and is no fault
abbrev pub part_finding : {role : Role} → Facts role → Gathering → Reading → Finding
part_finding facts (HeaderDue method) MalformedHeader = Some HeaderMalformed
part_finding facts (HeaderDue method) (HeaderOf size properties) =
    cond (nat_lt facts.config.max_body size) None
    (step_of_content_finding (step (HeaderDue method) (payload_of (HeaderOf size properties))))
part_finding facts kept reading = step_of_content_finding (step kept (payload_of reading))

abbrev pub part_on_finding : {role : Role} → Facts role → Channel → Reading → Finding
part_on_finding facts (channels.Open life) reading = part_finding facts life.content reading
part_on_finding facts channel reading = Some ContentNotOpen

abbrev pub content_on_finding : {role : Role} → Facts role → Reading → Finding
content_on_finding facts reading =
    cond (is_no_channel facts) (Some ContentOffChannel) (part_on_finding facts facts.channel reading)

abbrev pub content_finding : {role : Role} → Facts role → Reading → Option Finding
content_finding facts (HeaderOf size properties) = Some (content_on_finding facts (HeaderOf size properties))
content_finding facts MalformedHeader = Some (content_on_finding facts MalformedHeader)
content_finding facts (BodyOf octets) = Some (content_on_finding facts (BodyOf octets))
content_finding facts reading = None

-- The class connection, after the handshake.
abbrev pub connection_finding : Role → Method → Finding
connection_finding role method =
    cond (same_kind method.kind kinds.ConnectionClose) None
    (cond (is_client role && same_kind method.kind kinds.ConnectionSecure) (Some SecureNotThere)
    (cond (is_client role && same_kind method.kind kinds.ConnectionBlocked) None
    (cond (is_client role && same_kind method.kind kinds.ConnectionUnblocked) None (Some ConnectionOutOfOrder))))

-- What the lives of a channel do not allow.
abbrev free_finding : Role → Kind → Finding
free_finding Server Open = None
free_finding Server OpenOk = Some ChannelOutOfOrder
free_finding Client Open = Some ChannelOutOfOrder
free_finding role kind = Some MethodNotOpen

abbrev opening_finding : Role → Kind → Finding
opening_finding role Close = None
opening_finding Client OpenOk = None
opening_finding Server OpenOk = Some ChannelOutOfOrder
opening_finding Client Open = Some ChannelOutOfOrder
opening_finding role kind = Some MethodNotOpen

abbrev open_finding : Role → (awaits : Bool) → Kind → Finding
open_finding role awaits Close = None
open_finding role awaits (Flow active) = None
open_finding role awaits (FlowOk active) = cond awaits None (Some FlowOkUnasked)
open_finding role awaits (Other begins_content) = None
open_finding Server awaits Open = Some OpenedAgain
open_finding role awaits kind = Some ChannelOutOfOrder

abbrev pub lives_finding : Role → State → (awaits : Bool) → Kind → Finding
lives_finding role State.Closing awaits kind = None
lives_finding role State.Free awaits kind = free_finding role kind
lives_finding role State.Opening awaits kind = opening_finding role kind
lives_finding role State.Open awaits kind = open_finding role awaits kind

abbrev pub lives_finding_of : {role : Role} → Facts role → Kind → Finding
lives_finding_of {role} facts kind = lives_finding role (state_of facts.channel) (awaits_in facts.channel) kind

-- A method on an Open channel.
abbrev pub matched_finding : Role → List MethodKind → Method → Finding
matched_finding Client requests method =
    cond (is_reply method.kind && not (answers_first method.kind requests)) (Some ReplyUnasked) None
matched_finding Server requests method =
    cond (is_request method && nat_le MOST_REQUESTS (length requests)) (Some RequestTooMany) None

abbrev pub idle_finding : {role : Role} → Facts role → Life → Method → Kind → Finding
idle_finding {role} facts life method (Other begins_content) = matched_finding role life.requests method
idle_finding facts life method kind = lives_finding_of facts kind

-- inside a content: its header is due, or its body
abbrev pub inside_finding : {role : Role} → Facts role → Life → Method → Kind → Gathering → Finding
inside_finding facts life method kind Nothing = idle_finding facts life method kind
inside_finding facts life method kind (HeaderDue begun) = Some MethodForHeader
inside_finding facts life method kind (BodyDue begun size properties body) = Some MethodForBody

abbrev pub open_channel_finding : {role : Role} → Facts role → Life → Method → Kind → Finding
open_channel_finding facts life method Close = lives_finding_of facts Close
open_channel_finding facts life method kind = inside_finding facts life method kind life.content

abbrev pub state_finding : {role : Role} → Facts role → Channel → Method → Finding
state_finding facts (channels.Open life) method = open_channel_finding facts life method (kind_of (Calls method))
state_finding facts channel method = lives_finding_of facts (kind_of (Calls method))

-- A method on a connection that is Running.
abbrev pub method_finding : {role : Role} → Facts role → Method → Finding
method_finding {role} facts method =
    first_finding
    (cond (class_of method.kind == 10)
    (Some (cond (facts.number == 0) (connection_finding role method) (Some ConnectionOffZero))) None
    ∷ cond (sends (not (is_client role)) method.kind) None (Some (Some MethodMisdirected))
    ∷ cond (is_no_channel facts) (Some (Some MethodOffChannel)) None
    ∷ [])
    (state_finding facts facts.channel method)

abbrev pub rest_finding : {role : Role} → Facts role → Reading → Finding
rest_finding facts (Calls method) = method_finding facts method
rest_finding facts reading = Some MethodMalformed

-- the rule that a frame breaks, if it breaks one, in the order of the verdict
abbrev pub blamed : {role : Role} → Facts role → Reading → Option Rule
blamed facts reading =
    first_finding
    (over_finding facts.phase
    ∷ leaving_finding facts.phase
    ∷ heartbeat_finding facts.number reading
    ∷ closing_finding facts.channel
    ∷ unread_finding reading
    ∷ handshake_finding facts facts.phase reading
    ∷ content_finding facts reading
    ∷ [])
    (rest_finding facts reading)

-- What is told of a fault: the rule; the channel of the frame, where its octets are there; the method that it calls, or
-- that its first octets name where it does not parse; and the first of its fields that can't be read.
pub record Blame : Type 0 where
  pub rule : Rule
  pub channel : Option ℕ
  pub called : Option MethodKind
  pub field : Option MethodFault

abbrev called_by : Reading → (payload : List ℕ) → Option MethodKind
called_by (Calls method) payload = Some method.kind
called_by MalformedMethod payload = kind_of_ids payload
called_by reading payload = None

abbrev fault_in : {A : Type 0} → Result A MethodFault → Option MethodFault
fault_in (Ok read) = None
fault_in (Err fault) = Some fault

abbrev fault_of_kind : FrameKind → List ℕ → Option MethodFault
fault_of_kind frames.Method payload = fault_in (method_reading.method_at payload)
fault_of_kind frames.Header payload = fault_in (header_reading.header_at payload)
fault_of_kind kind payload = None

-- the first field of a method or of a content header that can't be read
abbrev field_fault : Frame → Option MethodFault
field_fault frame = fault_of_kind frame.kind frame.payload

abbrev told_of : Frame → Rule → Blame
told_of frame rule =
    record {
      rule = rule;
      channel = Some frame.channel;
      called = called_by (reading frame) frame.payload;
      field = field_fault frame;
    }

abbrev pub maybe_told_of : Frame → Option Rule → Option Blame
maybe_told_of frame (Some rule) = Some (told_of frame rule)
maybe_told_of frame None = None

-- what is told of a frame that breaks a rule
abbrev pub blame_on : {role : Role} → Facts role → Frame → Option Blame
blame_on facts frame = maybe_told_of frame (blamed facts (reading frame))
