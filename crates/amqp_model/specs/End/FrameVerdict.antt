-- What an end does with what it takes: the rules in their order, of which the first that applies decides.
--
-- AMQP 0-9-1 specification, sections 2.2.4 to 2.2.7 and 4.2, and `amqp0-9-1.xml`. The codes are the standard's, and
-- which fault earns which is this profile's choice; so is the order of the rules.
use Rattle.std.specs.Prelude.{Bool, true, false, cond, not, ◌&&◌, ◌||◌, ℕ, ◌==◌, nat_lt, nat_le, List, []}
use Rattle.std.specs.Prelude.{◌∷◌, map, length, Option, Some, None}
use Rattle.amqp_method.specs.declared.kinds.Kind.TheVariants as kinds
use Rattle.amqp_model.specs.Wire.Notes.{Role, Client, Server, is_client, Kind, Close, Other}
use Rattle.amqp_model.specs.History.Verdict as lives
use Rattle.amqp_model.specs.History.Verdict.{verdict_at}
use Rattle.amqp_model.specs.Wire.Methods.{MethodKind, Method, class_of, same_kind, sends, carries_content, is_request}
use Rattle.amqp_model.specs.Wire.Methods.{is_reply, answers, octets_at}
use Rattle.amqp_model.specs.Wire.Gathering.{Gathering, Nothing, HeaderDue, PastSize, Step, Keeps, Completes, Breaks}
use Rattle.amqp_model.specs.Wire.Gathering.{step}
use Rattle.amqp_model.specs.Wire.Readings.{Reading, Calls, UnknownMethod, MalformedMethod, HeaderOf, MalformedHeader}
use Rattle.amqp_model.specs.Wire.Readings.{BodyOf, Beat, is_call, kind_of, payload_of}
use Rattle.amqp_model.specs.End.Channels as channels
use Rattle.amqp_model.specs.End.Channels.{Life, Channel, Closing, state_of, Phase, Handshake, Closed, Failed, Agreed}
use Rattle.amqp_model.specs.End.Channels.{AwaitsProtocolHeader, AwaitsStart, AwaitsStartOk, AwaitsTune, AwaitsTuneOk}
use Rattle.amqp_model.specs.End.Channels.{AwaitsOpen, AwaitsOpenOk, HoldsStart, HoldsLogin, HoldsOpen}
use Rattle.amqp_model.specs.History.Negotiation.{Config, start_ok, tune, settled, tunes_too_small, tune_ok, agreed_in}
use Rattle.amqp_model.specs.History.Negotiation.{in_range, connection_open, connection_open_ok}
use Rattle.amqp_model.specs.End.Closes.{CloseCode, FrameError, SyntaxError, CommandInvalid, ChannelError}
use Rattle.amqp_model.specs.End.Closes.{UnexpectedFrame, ResourceError, NotImplemented, ContentTooLarge, Owed}
use Rattle.amqp_model.specs.End.Closes.{connection_close, connection_close_ok, channel_close, reply_to}
use Rattle.amqp_model.specs.End.Events.{Plain, Whole, Reason, reason_in, Event, AnswerAsked, LoginAsked, OpenAsked}
use Rattle.amqp_model.specs.End.Events.{Negotiated, Opened, Told, Flow, FlowOk, ChannelClosed, ConnectionClosed}
use Rattle.amqp_model.specs.End.Events.{Discarded, Blocked, Unblocked, Quiet, Peer, Fatal, AlreadyClosed, AlreadyFailed}
use Rattle.amqp_model.specs.End.Events.{FrameVerdict, Proceeds, RefusesContent, Faults}

-- all that a verdict rests on: the end's configuration, its phase, what was agreed, the frame's channel, and what
-- the end keeps of that channel
pub record Facts (role : Role) : Type 0 where
  pub config : Config role
  pub phase : Phase
  pub agreed : Option Agreed
  pub number : ℕ
  pub channel : Channel

-- how many requests a server keeps on a channel
abbrev pub MOST_REQUESTS : ℕ
MOST_REQUESTS = 1024

abbrev pub fault : CloseCode → FrameVerdict
fault code = Faults (Peer code)

-- a method owed on channel 0
abbrev pub on_zero : Method → Owed
on_zero method = record { channel = 0; method = method }

-- the first rule that applies, or the last
abbrev pub first_of : List (Option FrameVerdict) → FrameVerdict → FrameVerdict
first_of [] last = last
first_of (Some verdict ∷ later) last = verdict
first_of (None ∷ later) last = first_of later last

-- The connection is closed, or the end has failed: nothing is taken.
abbrev pub when_over : Phase → Option FrameVerdict
when_over Closed = Some (Faults AlreadyClosed)
when_over Failed = Some (Faults AlreadyFailed)
when_over phase = None

-- The end has put connection.close: it answers a close that crosses its own, and its close-ok ends the connection.
-- All else it drops.
abbrev pub leaving_on : (number : ℕ) → Reading → FrameVerdict
leaving_on number reading =
    cond ((number == 0) && is_call kinds.ConnectionClose reading) (Proceeds (Some Quiet) (connection_close_ok ∷ []))
    (cond ((number == 0) && is_call kinds.ConnectionCloseOk reading) (Proceeds (Some (ConnectionClosed None)) [])
    (Proceeds (Some (Discarded number)) []))

abbrev pub when_leaving : Phase → (number : ℕ) → Reading → Option FrameVerdict
when_leaving Phase.Closing number reading = Some (leaving_on number reading)
when_leaving phase number reading = None

-- A heartbeat is empty and stands on channel 0.
abbrev pub when_heartbeat : (number : ℕ) → Reading → Option FrameVerdict
when_heartbeat number (Beat empty) = Some (cond ((number == 0) && empty) (Proceeds (Some Quiet) []) (fault FrameError))
when_heartbeat number reading = None

-- What comes of a method of the class channel is said with the lives of a channel. Here its event and its reply are
-- written out.
abbrev reason_of : Reading → Option Reason
reason_of (Calls method) = Some (reason_in method)
reason_of reading = None

abbrev pub event_of : (number : ℕ) → Reading → lives.ChannelEvent → Option Event
event_of number reading lives.Opened = Some (Opened number)
event_of number reading lives.ClosedByUs = Some (ChannelClosed number None)
event_of number reading lives.ClosedByPeer = Some (ChannelClosed number (reason_of reading))
event_of number reading lives.Discarded = Some (Discarded number)
event_of number reading lives.Quiet = Some Quiet
event_of number reading (lives.FlowAsked active) = Some (Flow number active)
event_of number reading (lives.FlowAnswered active) = Some (FlowOk number active)
event_of number reading lives.Acted = None

abbrev pub on_channel : (number : ℕ) → Method → Owed
on_channel number method = record { channel = number; method = method }

-- the lives know but two codes
abbrev code_of : ℕ → CloseCode
code_of number = cond (number == lives.channel_error) ChannelError CommandInvalid

abbrev pub as_lives : (number : ℕ) → Reading → lives.Verdict → FrameVerdict
as_lives number reading (lives.GoesOn event owed) =
    Proceeds (event_of number reading event) (map (on_channel number) (reply_to owed))
as_lives number reading (lives.Fault code) = fault (code_of code)

abbrev pub awaits_in : Channel → Bool
awaits_in (channels.Open life) = life.awaits
awaits_in channel = false

-- the frame is of this kind to its channel
abbrev pub lives_verdict : {role : Role} → Facts role → Reading → Kind → FrameVerdict
lives_verdict {role} facts reading kind =
    as_lives facts.number reading (verdict_at role (state_of facts.channel) (awaits_in facts.channel) kind)

-- The end has put channel.close on the channel: it answers a close that crosses its own, and close-ok frees the
-- number. All else it drops, also what does not parse.
abbrev pub when_channel_closing : {role : Role} → Facts role → Channel → Reading → Option FrameVerdict
when_channel_closing facts Closing reading = Some (lives_verdict facts reading (kind_of reading))
when_channel_closing facts channel reading = None

-- A method has to be one that there is, and to parse.
abbrev pub when_unread : Reading → Option FrameVerdict
when_unread UnknownMethod = Some (fault NotImplemented)
when_unread MalformedMethod = Some (fault SyntaxError)
when_unread reading = None

-- The other end closes the connection: close-ok, and it is closed.
abbrev pub closed_by : Method → FrameVerdict
closed_by method = Proceeds (Some (ConnectionClosed (Some (reason_in method)))) (connection_close_ok ∷ [])

abbrev pub negotiated : Option Agreed → Option Event
negotiated (Some agreed) = Some (Negotiated agreed)
negotiated None = None

-- the method that a step of the handshake awaits: none where the application is to decide
abbrev pub is_awaited : channels.HandshakeStep → MethodKind → Bool
is_awaited AwaitsProtocolHeader kind = false
is_awaited AwaitsStart kind = same_kind kind kinds.ConnectionStart
is_awaited AwaitsStartOk kind = same_kind kind kinds.ConnectionStartOk
is_awaited AwaitsTune kind = same_kind kind kinds.ConnectionTune
is_awaited AwaitsTuneOk kind = same_kind kind kinds.ConnectionTuneOk
is_awaited AwaitsOpen kind = same_kind kind kinds.ConnectionOpen
is_awaited AwaitsOpenOk kind = same_kind kind kinds.ConnectionOpenOk
is_awaited HoldsStart kind = false
is_awaited HoldsLogin kind = false
is_awaited HoldsOpen kind = false

-- a gated end asks its application, any other answers at once
abbrev pub asked_or : (gated : Bool) → Event → FrameVerdict → FrameVerdict
asked_or true event at_once = Proceeds (Some event) []
asked_or false event at_once = at_once

-- The awaited method: the client answers start with start-ok, tune with tune-ok and open, and a tune with a frame
-- size too small with a fault; the server answers start-ok with tune and open with open-ok, and a tune-ok past its
-- own limits can't be answered. An end that is gated asks its application for the answer to start, to start-ok and to
-- open.
abbrev pub on_awaited : (role : Role) → Config role → Option Agreed → channels.HandshakeStep
    → Method → FrameVerdict
on_awaited Client config agreed AwaitsStart method =
    asked_or config.gated AnswerAsked (Proceeds (Some Quiet) (on_zero (start_ok config) ∷ []))
on_awaited Client config agreed AwaitsTune method =
    cond (tunes_too_small method) (fault FrameError)
    (Proceeds (Some Quiet) (on_zero (tune_ok (settled config method)) ∷ on_zero (connection_open config) ∷ []))
on_awaited Client config agreed AwaitsOpenOk method = Proceeds (negotiated agreed) []
on_awaited Server config agreed AwaitsStartOk method =
    asked_or config.gated LoginAsked (Proceeds (Some Quiet) (on_zero (tune config) ∷ []))
on_awaited Server config agreed AwaitsTuneOk method =
    cond (in_range config (agreed_in method)) (Proceeds (Some Quiet) []) (Faults Fatal)
on_awaited Server config agreed AwaitsOpen method =
    asked_or config.gated OpenAsked (Proceeds (negotiated agreed) (on_zero connection_open_ok ∷ []))
on_awaited role config agreed step method = fault CommandInvalid

-- The handshake, on channel 0: a close is answered, secure is not there, and the awaited method does its step.
abbrev pub in_step : (role : Role) → Config role → Option Agreed → channels.HandshakeStep
    → Method → FrameVerdict
in_step role config agreed step method =
    cond (same_kind method.kind kinds.ConnectionClose) (closed_by method)
    (cond (is_client role && same_kind method.kind kinds.ConnectionSecure) (fault NotImplemented)
    (cond (is_awaited step method.kind) (on_awaited role config agreed step method) (fault CommandInvalid)))

abbrev in_handshake : {role : Role} → Facts role → channels.HandshakeStep → Reading → FrameVerdict
in_handshake {role} facts step (Calls method) =
    cond (facts.number == 0) (in_step role facts.config facts.agreed step method) (fault CommandInvalid)
in_handshake facts step reading = fault CommandInvalid

-- Until the handshake is over nothing else is taken.
abbrev pub when_handshake : {role : Role} → Facts role → Phase → Reading → Option FrameVerdict
when_handshake facts (Handshake step) reading = Some (in_handshake facts step reading)
when_handshake facts phase reading = None

abbrev pub channel_limit : Option Agreed → ℕ
channel_limit (Some agreed) = agreed.channel_max
channel_limit None = 0

-- channel 0, or above the agreed maximum
abbrev pub is_no_channel : {role : Role} → Facts role → Bool
is_no_channel facts = (facts.number == 0) || nat_lt (channel_limit facts.agreed) facts.number

-- A part of a content is out of place, is past the body's size, makes the content whole, or is one more.
abbrev pub after_part : (number : ℕ) → Step → FrameVerdict
after_part number (Completes content) = Proceeds (Some (Told number (Whole content))) []
after_part number (Keeps kept) = Proceeds None []
after_part number (Breaks PastSize) = fault FrameError
after_part number (Breaks misfit) = fault UnexpectedFrame

-- A header where one is due has to parse, and its body not to pass the greatest that the end takes.
abbrev pub on_part : {role : Role} → Facts role → Gathering → Reading → FrameVerdict
on_part facts (HeaderDue method) MalformedHeader = fault SyntaxError
on_part facts (HeaderDue method) (HeaderOf size properties) =
    cond (nat_lt facts.config.max_body size) RefusesContent
    (after_part facts.number (step (HeaderDue method) (payload_of (HeaderOf size properties))))
on_part facts kept reading = after_part facts.number (step kept (payload_of reading))

abbrev pub part_on : {role : Role} → Facts role → Channel → Reading → FrameVerdict
part_on facts (channels.Open life) reading = on_part facts life.content reading
part_on facts channel reading = fault ChannelError

-- Header and body frames belong on an Open channel.
abbrev pub on_content : {role : Role} → Facts role → Reading → FrameVerdict
on_content facts reading = cond (is_no_channel facts) (fault ChannelError) (part_on facts facts.channel reading)

abbrev pub when_content : {role : Role} → Facts role → Reading → Option FrameVerdict
when_content facts (HeaderOf size properties) = Some (on_content facts (HeaderOf size properties))
when_content facts MalformedHeader = Some (on_content facts MalformedHeader)
when_content facts (BodyOf octets) = Some (on_content facts (BodyOf octets))
when_content facts reading = None

-- The class connection, on channel 0 alone: a close is answered, the server's blocked and unblocked are reported,
-- secure is not there. Nothing else of it comes once the handshake is over.
abbrev pub on_connection : Role → Method → FrameVerdict
on_connection role method =
    cond (same_kind method.kind kinds.ConnectionClose) (closed_by method)
    (cond (is_client role && same_kind method.kind kinds.ConnectionSecure) (fault NotImplemented)
    (cond (is_client role && same_kind method.kind kinds.ConnectionBlocked)
    (Proceeds (Some (Blocked (octets_at 0 method))) [])
    (cond (is_client role && same_kind method.kind kinds.ConnectionUnblocked) (Proceeds (Some Unblocked) [])
    (fault CommandInvalid))))

abbrev pub when_connection : Role → (number : ℕ) → Method → Option FrameVerdict
when_connection role number method =
    cond (class_of method.kind == 10) (Some (cond (number == 0) (on_connection role method) (fault CommandInvalid)))
    None

-- A method that the other end may not send.
abbrev pub when_misdirected : Role → Method → Option FrameVerdict
when_misdirected role method = cond (sends (not (is_client role)) method.kind) None (Some (fault CommandInvalid))

-- Channel 0 and the numbers above the agreed maximum are no channels.
abbrev pub when_no_channel : {role : Role} → Facts role → Option FrameVerdict
when_no_channel facts = cond (is_no_channel facts) (Some (fault ChannelError)) None

-- A method without content is told at once; of one with content the header is due.
abbrev pub on_message : (number : ℕ) → Method → FrameVerdict
on_message number method =
    cond (carries_content method) (Proceeds None []) (Proceeds (Some (Told number (Plain method))) [])

-- the method answers the oldest of these requests
abbrev pub answers_first : MethodKind → List MethodKind → Bool
answers_first kind [] = false
answers_first kind (request ∷ later) = answers kind request

-- Replies are matched: a client takes no reply but to the request that waits, a server keeps so many requests.
abbrev pub on_matched : Role → (number : ℕ) → List MethodKind → Method → FrameVerdict
on_matched Client number requests method =
    cond (is_reply method.kind && not (answers_first method.kind requests)) (fault CommandInvalid)
    (on_message number method)
on_matched Server number requests method =
    cond (is_request method && nat_le MOST_REQUESTS (length requests)) (fault ResourceError) (on_message number method)

-- With no content under way, a method of the class channel does what the lives of a channel say; the others are
-- messages.
abbrev pub on_idle : {role : Role} → Facts role → Life → Method → Kind → FrameVerdict
on_idle {role} facts life method (Other begins_content) = on_matched role facts.number life.requests method
on_idle facts life method kind = lives_verdict facts (Calls method) kind

abbrev pub is_gathering : Gathering → Bool
is_gathering Nothing = false
is_gathering kept = true

-- A close ends the life at any place; no other method stands inside a content.
abbrev pub on_open : {role : Role} → Facts role → Life → Method → Kind → FrameVerdict
on_open facts life method Close = lives_verdict facts (Calls method) Close
on_open facts life method kind =
    cond (is_gathering life.content) (fault UnexpectedFrame) (on_idle facts life method kind)

-- A method on a channel that is Open; on one that is Free or Opening the lives of a channel say all.
abbrev pub by_state : {role : Role} → Facts role → Channel → Method → FrameVerdict
by_state facts (channels.Open life) method = on_open facts life method (kind_of (Calls method))
by_state facts channel method = lives_verdict facts (Calls method) (kind_of (Calls method))

-- a method on a connection that is Running
abbrev pub on_method : {role : Role} → Facts role → Method → FrameVerdict
on_method {role} facts method =
    first_of (when_connection role facts.number method ∷ when_misdirected role method
    ∷ when_no_channel facts ∷ [])
    (by_state facts facts.channel method)

-- what no earlier rule has taken is a method
abbrev pub on_rest : {role : Role} → Facts role → Reading → FrameVerdict
on_rest facts (Calls method) = on_method facts method
on_rest facts reading = fault SyntaxError

-- the verdict on a whole frame
abbrev pub verdict_on : {role : Role} → Facts role → Reading → FrameVerdict
verdict_on facts reading =
    first_of
    (when_over facts.phase
    ∷ when_leaving facts.phase facts.number reading
    ∷ when_heartbeat facts.number reading
    ∷ when_channel_closing facts facts.channel reading
    ∷ when_unread reading
    ∷ when_handshake facts facts.phase reading
    ∷ when_content facts reading
    ∷ [])
    (on_rest facts reading)

abbrev closes_again : Phase → CloseCode → List Owed
closes_again Phase.Closing code = []
closes_again phase code = connection_close code ∷ []

-- the methods that a verdict puts; connection.close is put once
abbrev pub methods_put : {role : Role} → Facts role → FrameVerdict → List Owed
methods_put facts (Proceeds event owed) = owed
methods_put facts RefusesContent = channel_close facts.number ContentTooLarge ∷ []
methods_put facts (Faults (Peer code)) = closes_again facts.phase code
methods_put facts (Faults fault) = []

-- what an application is told
abbrev pub event_told : {role : Role} → Facts role → FrameVerdict → Option Event
event_told facts (Proceeds event owed) = event
event_told facts RefusesContent = Some (Discarded facts.number)
event_told facts (Faults fault) = None
