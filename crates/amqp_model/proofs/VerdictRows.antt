-- What one end does with frames that come one after the other, computed.
use Rattle.std.proofs.Common.{◌≡◌, true, false, ℕ, List, [], ◌∷◌, codes, replicate, Some, None, refl}
use Rattle.amqp_frame.specs.declared.frames.FrameKind.{FrameKind}
use Rattle.amqp_method.specs.declared.kinds.Kind.TheVariants as kinds
use Rattle.amqp_value.specs.Values.{no_pairs}
use Rattle.amqp_model.specs.Wire.Frame.{Frame}
use Rattle.amqp_model.specs.Wire.Notes.{Role, Client, Server}
use Rattle.amqp_method.specs.Arguments.{Argument, bit, octet, short, long, short_string, long_string, table}
use Rattle.amqp_model.specs.Wire.Methods.{MethodKind, Method, Properties}
use Rattle.amqp_model.specs.Wire.Gathering.{Nothing}
use Rattle.amqp_model.specs.Wire.Readings.{Reading, Calls, UnknownMethod, MalformedMethod, HeaderOf, BodyOf, Beat}
use Rattle.amqp_model.specs.History.Histories.{PutHere}
use Rattle.amqp_model.specs.End.Channels.{Opening, Open, Running, Agreed, End}
use Rattle.amqp_model.specs.History.Negotiation.{Config, OfClient, OfServer, start, start_ok, tune}
use Rattle.amqp_model.specs.End.Closes.{CloseCode, FrameError, SyntaxError, CommandInvalid, ChannelError}
use Rattle.amqp_model.specs.End.Closes.{UnexpectedFrame, ResourceError, NotImplemented, Owed, close_as}
use Rattle.amqp_model.specs.End.Closes.{without_arguments, flow_as}
use Rattle.amqp_model.specs.End.Events.{Message, Plain, Whole, Negotiated, Opened, Told, Flow, FlowOk, ChannelClosed}
use Rattle.amqp_model.specs.End.Events.{Discarded, Blocked, Quiet, Peer, Fatal, AlreadyClosed, AlreadyFailed}
use Rattle.amqp_model.specs.End.Events.{FrameVerdict, Proceeds, RefusesContent, Faults}
use Rattle.amqp_model.specs.End.Asks as asks
use Rattle.amqp_model.specs.End.Asks.{Refusal, Ask, refusal, paused, reply_pending, no_such_request}
use Rattle.amqp_model.specs.End.Machine.{end_after, end_after_taken, taken_verdict, new_end}

-- a frame that says this, on its channel
pub data Came : Type 0 where
  On : ℕ → Reading → Came

-- the octets of a frame do not matter here
abbrev pub some_frame : ℕ → Frame
some_frame channel = record { kind = FrameKind.Method; channel = channel; payload = [] }

abbrev pub verdicts : (role : Role) → Config role → End → List Came → List FrameVerdict
verdicts role config end [] = []
verdicts role config end (On number reading ∷ later) =
    taken_verdict config end number reading ∷ verdicts role config
    (end_after_taken role config end reading (some_frame number)) later

abbrev pub after_all : (role : Role) → Config role → End → List Came → End
after_all role config end [] = end
after_all role config end (On number reading ∷ later) =
    after_all role config (end_after_taken role config end reading (some_frame number)) later

abbrev pub quietly : List Owed → FrameVerdict
quietly owed = Proceeds (Some Quiet) owed

abbrev pub silently : FrameVerdict
silently = Proceeds None []

abbrev pub owes : ℕ → Method → Owed
owes channel method = record { channel = channel; method = method }

abbrev pub closed_with : CloseCode → FrameVerdict
closed_with code = Faults (Peer code)

abbrev pub server_config : (max_body : ℕ) → Config Server
server_config max_body =
    record {
      frame_max = 131072;
      channel_max = 2047;
      max_body = max_body;
      heartbeat = 0;
      gated = false;
      hello = OfServer no_pairs (codes "PLAIN") (codes "en_US");
    }

abbrev pub client_config : Config Client
client_config =
    record {
      frame_max = 8192;
      channel_max = 10;
      max_body = 16777216;
      heartbeat = 0;
      gated = false;
      hello = OfClient no_pairs (codes "PLAIN") (0 ∷ 1 ∷ 0 ∷ 1 ∷ []) (codes "en_US") (codes "/");
    }

abbrev pub calls : ℕ → MethodKind → List Argument → Came
calls channel kind args = On channel (Calls (record { kind = kind; args = args }))

-- a server that has put start
abbrev pub greeted : (max_body : ℕ) → End
greeted max_body =
    end_after Server (server_config max_body) 0 (PutHere (Calls (start (server_config max_body))) (some_frame 0))
    (new_end Server)

-- The server's handshake, and a channel opened.
abbrev handshake : List Came
handshake =
    calls 0 kinds.ConnectionStartOk (table no_pairs ∷ short_string (codes "PLAIN") ∷ long_string []
    ∷ short_string (codes "en_US") ∷ [])
    ∷ calls 0 kinds.ConnectionTuneOk (short 2047 ∷ long 131072 ∷ short 0 ∷ [])
    ∷ calls 0 kinds.ConnectionOpen (short_string (codes "/") ∷ [])
    ∷ calls 1 kinds.ChannelOpen []
    ∷ []

abbrev pub default_limits : Agreed
default_limits = record { channel_max = 2047; frame_max = 131072; heartbeat = 0 }

server_handshake : verdicts Server (server_config 16777216) (greeted 16777216) handshake ≡
    quietly (owes 0 (record { kind = kinds.ConnectionTune; args = short 2047 ∷ long 131072 ∷ short 0 ∷ [] })
    ∷ []) ∷ quietly []
    ∷ Proceeds (Some (Negotiated default_limits)) (owes 0 (without_arguments kinds.ConnectionOpenOk) ∷ [])
    ∷ Proceeds (Some (Opened 1)) (owes 1 (without_arguments kinds.ChannelOpenOk) ∷ [])
    ∷ []
server_handshake = refl

-- the server after that handshake
abbrev pub running : (max_body : ℕ) → End
running max_body = after_all Server (server_config max_body) (greeted max_body) handshake

abbrev pub publish : Method
publish =
    record {
      kind = kinds.BasicPublish;
      args = short_string [] ∷ short_string (codes "q")
          ∷ bit false ∷ bit false ∷ [];
    }

abbrev pub no_properties : Properties
no_properties = []

-- A content of two octets, with a heartbeat and another channel's open between its frames.
abbrev content_frames : List Came
content_frames =
    On 1 (Calls publish) ∷ On 0 (Beat true) ∷ On 1 (HeaderOf 2 no_properties) ∷ calls 2 kinds.ChannelOpen []
    ∷ On 1 (BodyOf (codes "hi")) ∷ []

server_content : verdicts Server (server_config 16777216) (running 16777216) content_frames ≡
    silently
    ∷ quietly []
    ∷ silently
    ∷ Proceeds (Some (Opened 2)) (owes 2 (without_arguments kinds.ChannelOpenOk) ∷ [])
    ∷ Proceeds (Some (Told 1 (Whole (record { method = publish; properties = no_properties; body = codes "hi" })))) []
    ∷ []
server_content = refl

-- The same where the server takes no body above one octet: the header costs the channel, the body is dropped.
server_content_refused : verdicts Server (server_config 1) (running 1) content_frames ≡
    silently
    ∷ quietly []
    ∷ RefusesContent
    ∷ Proceeds (Some (Opened 2)) (owes 2 (without_arguments kinds.ChannelOpenOk) ∷ [])
    ∷ Proceeds (Some (Discarded 1)) []
    ∷ []
server_content_refused = refl

-- The client's handshake takes the smaller of the limits.
abbrev client_handshake_frames : List Came
client_handshake_frames =
    calls 0 kinds.ConnectionStart (octet 0 ∷ octet 9 ∷ table no_pairs ∷ long_string (codes "PLAIN")
    ∷ long_string (codes "en_US") ∷ [])
    ∷ calls 0 kinds.ConnectionTune (short 2047 ∷ long 131072 ∷ short 0 ∷ [])
    ∷ calls 0 kinds.ConnectionOpenOk []
    ∷ []

client_handshake : verdicts Client client_config (new_end Client) client_handshake_frames ≡
    quietly (owes 0 (start_ok client_config) ∷ [])
    ∷ quietly (owes 0 (record { kind = kinds.ConnectionTuneOk; args = short 10 ∷ long 8192 ∷ short 0 ∷ [] })
    ∷ owes 0 (record { kind = kinds.ConnectionOpen; args = short_string (codes "/") ∷ [] }) ∷ [])
    ∷ Proceeds (Some (Negotiated (record { channel_max = 10; frame_max = 8192; heartbeat = 0 }))) []
    ∷ []
client_handshake = refl

abbrev pub client : End
client = after_all Client client_config (new_end Client) client_handshake_frames

-- the first open takes channel 1
client_opens_first : refusal Client client Ask.Open ≡ None
client_opens_first = refl

client_lowest : asks.lowest_free client ≡ Some 1
client_lowest = refl

-- with ten channels opening no number is free
client_all_taken : refusal Client (record client { channels = λ number. Opening }) Ask.Open
    ≡ Some Refusal.NoFreeChannel
client_all_taken = refl

-- a tune with a frame size too small
client_tune_too_small : verdicts Client client_config (new_end Client)
    (calls 0 kinds.ConnectionStart [] ∷ calls 0 kinds.ConnectionTune
    (short 0 ∷ long 4095 ∷ short 0 ∷ []) ∷ []) ≡
    quietly (owes 0 (start_ok client_config) ∷ []) ∷ closed_with FrameError ∷ []
client_tune_too_small = refl

-- a tune-ok past the server's limits can't be answered
server_tune_ok_of_nothing : verdicts Server (server_config 8) (greeted 8)
    (calls 0 kinds.ConnectionStartOk [] ∷ calls 0 kinds.ConnectionTuneOk
    (short 0 ∷ long 131072 ∷ short 0 ∷ []) ∷ []) ≡
    quietly (owes 0 (tune (server_config 8)) ∷ []) ∷ Faults Fatal ∷ []
server_tune_ok_of_nothing = refl

-- The server's close is answered, and the client opens again.
abbrev closing_server : End
closing_server =
    end_after Server (server_config 8) 1 (PutHere (Calls (close_as kinds.ChannelClose 200 (codes "bye")))
    (some_frame 1)) (running 8)

closed_and_reopened : verdicts Server (server_config 8) closing_server
    (calls 1 kinds.ChannelCloseOk [] ∷ calls 1 kinds.ChannelOpen [] ∷ []) ≡
    Proceeds (Some (ChannelClosed 1 None)) [] ∷ Proceeds (Some (Opened 1))
    (owes 1 (without_arguments kinds.ChannelOpenOk) ∷ []) ∷ []
closed_and_reopened = refl

-- A client that opens channel 1 takes open-ok, and then the server's close.
abbrev opening_client : End
opening_client =
    end_after Client client_config 1 (PutHere (Calls (without_arguments kinds.ChannelOpen)) (some_frame 1)) client

abbrev pub bye : List Argument
bye = short 200 ∷ short_string (codes "bye") ∷ short 0 ∷ short 0 ∷ []

opened_and_closed : verdicts Client client_config opening_client
    (calls 1 kinds.ChannelOpenOk [] ∷ calls 1 kinds.ChannelClose bye ∷ []) ≡
    Proceeds (Some (Opened 1)) []
    ∷ Proceeds (Some (ChannelClosed 1 (Some (record { code = 200; text = codes "bye" }))))
    (owes 1 (without_arguments kinds.ChannelCloseOk) ∷ []) ∷ []
opened_and_closed = refl

-- Contents that come once the client has put its close are dropped.
abbrev pub open_client : End
open_client = after_all Client client_config opening_client (calls 1 kinds.ChannelOpenOk [] ∷ [])

abbrev pub closing_client : End
closing_client =
    end_after Client client_config 1 (PutHere (Calls (close_as kinds.ChannelClose 200 (codes "bye")))
    (some_frame 1)) open_client

contents_dropped : verdicts Client client_config closing_client
    (calls 1 kinds.BasicDeliver [] ∷ On 1 (HeaderOf 0 no_properties) ∷ On 1 MalformedMethod
    ∷ calls 1 kinds.ChannelCloseOk [] ∷ []) ≡
    Proceeds (Some (Discarded 1)) [] ∷ Proceeds (Some (Discarded 1)) [] ∷ Proceeds (Some (Discarded 1)) []
    ∷ Proceeds (Some (ChannelClosed 1 None)) [] ∷ []
contents_dropped = refl

-- What a server that is Running and has channel 1 Open says to malicious frames.
abbrev pub server_says : List Came → List FrameVerdict
server_says frames = verdicts Server (server_config 8) (running 8) frames

header_alone : server_says (On 1 (HeaderOf 2 no_properties) ∷ []) ≡ closed_with UnexpectedFrame ∷ []
header_alone = refl

publish_elsewhere : server_says (On 2 (Calls publish) ∷ []) ≡ closed_with ChannelError ∷ []
publish_elsewhere = refl

opened_twice : server_says (calls 1 kinds.ChannelOpen [] ∷ []) ≡ closed_with ChannelError ∷ []
opened_twice = refl

opened_above_limit : server_says (calls 2048 kinds.ChannelOpen [] ∷ []) ≡ closed_with ChannelError ∷ []
opened_above_limit = refl

open_ok_to_server : server_says (calls 1 kinds.ChannelOpenOk [] ∷ []) ≡ closed_with CommandInvalid ∷ []
open_ok_to_server = refl

close_ok_unawaited : server_says (calls 1 kinds.ChannelCloseOk [] ∷ []) ≡ closed_with CommandInvalid ∷ []
close_ok_unawaited = refl

heartbeat_elsewhere : server_says (On 1 (Beat true) ∷ []) ≡ closed_with FrameError ∷ []
heartbeat_elsewhere = refl

malformed : server_says (On 1 MalformedMethod ∷ []) ≡ closed_with SyntaxError ∷ []
malformed = refl

published_twice : server_says (On 1 (Calls publish) ∷ On 1 (Calls publish) ∷ [])
    ≡ silently ∷ closed_with UnexpectedFrame ∷ []
published_twice = refl

body_past_size : server_says (On 1 (Calls publish) ∷ On 1 (HeaderOf 2 no_properties) ∷ On 1 (BodyOf (codes "hi!"))
    ∷ []) ≡ silently ∷ silently ∷ closed_with FrameError ∷ []
body_past_size = refl

unknown : server_says (On 0 UnknownMethod ∷ []) ≡ closed_with NotImplemented ∷ []
unknown = refl

closed_inside_content : server_says (On 1 (Calls publish) ∷ calls 1 kinds.ChannelClose bye ∷ []) ≡
    silently
    ∷ Proceeds (Some (ChannelClosed 1 (Some (record { code = 200; text = codes "bye" }))))
    (owes 1 (without_arguments kinds.ChannelCloseOk) ∷ []) ∷ []
closed_inside_content = refl

-- a client is told that the server is short of resources
client_blocked : verdicts Client client_config client
    (calls 0 kinds.ConnectionBlocked (short_string (codes "low") ∷ []) ∷ [])
    ≡ Proceeds (Some (Blocked (codes "low"))) [] ∷ []
client_blocked = refl

-- Flow: the flow is answered with its own bit; a second one waits for the first to be answered; the paused end begins
-- no content, but a get-ok.
abbrev paused_server : End
paused_server = after_all Server (server_config 8) (running 8) (calls 1 kinds.ChannelFlow (bit false ∷ []) ∷ [])

flow_answered : server_says (calls 1 kinds.ChannelFlow (bit false ∷ []) ∷ []) ≡ Proceeds (Some (Flow 1 false))
    (owes 1 (flow_as kinds.ChannelFlowOk false) ∷ []) ∷ []
flow_answered = refl

abbrev a_content : MethodKind → Message
a_content kind = Whole (record { method = record { kind = kind; args = [] }; properties = no_properties; body = [] })

deliver_paused : paused paused_server (Ask.Send 1 (a_content kinds.BasicDeliver)) ≡ Some Refusal.Paused
deliver_paused = refl

get_ok_unpaused : paused paused_server (Ask.Send 1 (a_content kinds.BasicGetOk)) ≡ None
get_ok_unpaused = refl

second_flow : refusal Client
    (end_after Client client_config 1 (PutHere (Calls (flow_as kinds.ChannelFlow false)) (some_frame 1)) open_client)
    (Ask.Flow 1 true) ≡ Some Refusal.FlowPending
second_flow = refl

-- Replies: none comes that no request awaits, and a server keeps so many requests.
reply_unasked : verdicts Client client_config open_client (calls 1 kinds.TxSelectOk [] ∷ [])
    ≡ closed_with CommandInvalid ∷ []
reply_unasked = refl

abbrev asking_client : End
asking_client =
    end_after Client client_config 1 (PutHere (Calls (without_arguments kinds.TxSelect)) (some_frame 1)) open_client

reply_told : verdicts Client client_config asking_client (calls 1 kinds.TxSelectOk [] ∷ calls 1 kinds.TxSelectOk []
    ∷ []) ≡ Proceeds (Some (Told 1 (Plain (without_arguments kinds.TxSelectOk)))) []
    ∷ closed_with CommandInvalid ∷ []
reply_told = refl

second_request : reply_pending Client asking_client (Ask.Send 1 (Plain (without_arguments kinds.TxCommit)))
    ≡ Some Refusal.ReplyPending
second_request = refl

no_wait_goes_through : reply_pending Client asking_client
    (Ask.Send 1 (Plain (record { kind = kinds.ConfirmSelect; args = bit true ∷ [] }))) ≡ None
no_wait_goes_through = refl

reply_to_nothing : no_such_request Server (running 8) (Ask.Send 1 (Plain (without_arguments kinds.TxSelectOk)))
    ≡ Some Refusal.NoSuchRequest
reply_to_nothing = refl

reply_in_turn : no_such_request Server
    (after_all Server (server_config 8) (running 8) (calls 1 kinds.TxSelect [] ∷ []))
    (Ask.Send 1 (Plain (without_arguments kinds.TxSelectOk))) ≡ None
reply_in_turn = refl

abbrev busy_server : ℕ → End
busy_server requests =
    record {
      phase = Running;
      agreed = Some default_limits;
      channels = λ number.
          Open (record {
            content = Nothing;
            paused = false;
            awaits = false;
            requests = replicate requests kinds.TxSelect;
          });
    }

last_request : verdicts Server (server_config 8) (busy_server 1023) (calls 1 kinds.TxSelect [] ∷ [])
    ≡ Proceeds (Some (Told 1 (Plain (without_arguments kinds.TxSelect)))) [] ∷ []
last_request = refl

one_request_too_many : verdicts Server (server_config 8) (busy_server 1024) (calls 1 kinds.TxSelect [] ∷ [])
    ≡ closed_with ResourceError ∷ []
one_request_too_many = refl

-- A reply that carries a content is matched at its method; one to another request is not taken, nor is one while none
-- waits.
abbrev getting_client : End
getting_client =
    end_after Client client_config 1 (PutHere (Calls (without_arguments kinds.BasicGet)) (some_frame 1)) open_client

got_one : verdicts Client client_config getting_client (calls 1 kinds.BasicGetOk [] ∷ On 1 (HeaderOf 0 no_properties)
    ∷ calls 1 kinds.BasicGetEmpty [] ∷ []) ≡
    silently ∷ Proceeds
    (Some (Told 1 (Whole (record {
      method = without_arguments kinds.BasicGetOk;
      properties = no_properties;
      body = [];
    })))) [] ∷ closed_with CommandInvalid ∷ []
got_one = refl

got_none : verdicts Client client_config getting_client (calls 1 kinds.BasicGetEmpty [] ∷ [])
    ≡ Proceeds (Some (Told 1 (Plain (without_arguments kinds.BasicGetEmpty)))) [] ∷ []
got_none = refl

got_another : verdicts Client client_config getting_client (calls 1 kinds.QueueDeclareOk [] ∷ [])
    ≡ closed_with CommandInvalid ∷ []
got_another = refl

-- A flow that is unanswered is answered once, whatever the bit, but not inside a content.
abbrev pub asking_server : End
asking_server =
    end_after Server (server_config 8) 1 (PutHere (Calls (flow_as kinds.ChannelFlow false)) (some_frame 1)) (running 8)

flow_heard : verdicts Server (server_config 8) asking_server (calls 1 kinds.ChannelFlowOk (bit true ∷ [])
    ∷ calls 1 kinds.ChannelFlowOk (bit false ∷ []) ∷ []) ≡ Proceeds (Some (FlowOk 1 true)) []
    ∷ closed_with CommandInvalid ∷ []
flow_heard = refl

flow_inside_content : verdicts Server (server_config 8) asking_server
    (On 1 (Calls publish) ∷ calls 1 kinds.ChannelFlowOk (bit true ∷ []) ∷ [])
    ≡ silently ∷ closed_with UnexpectedFrame ∷ []
flow_inside_content = refl

-- The class connection off channel 0, other classes on channel 0, and content above the greatest number.
connection_elsewhere : server_says (calls 1 kinds.ConnectionClose bye ∷ []) ≡ closed_with CommandInvalid ∷ []
connection_elsewhere = refl

class_on_zero : server_says (calls 0 kinds.TxSelect [] ∷ []) ≡ closed_with ChannelError ∷ []
class_on_zero = refl

misdirected_above_limit : server_says (calls 2048 kinds.BasicDeliver [] ∷ []) ≡ closed_with CommandInvalid ∷ []
misdirected_above_limit = refl

body_above_limit : server_says (On 2048 (BodyOf []) ∷ []) ≡ closed_with ChannelError ∷ []
body_above_limit = refl

-- An end that is closed, or has failed, says so of every frame.
abbrev closed_server : End
closed_server = after_all Server (server_config 8) (running 8) (calls 0 kinds.ConnectionClose bye ∷ [])

closed_says : verdicts Server (server_config 8) closed_server (calls 1 kinds.TxSelect [] ∷ [])
    ≡ Faults AlreadyClosed ∷ []
closed_says = refl

closed_says_of_heartbeat : verdicts Server (server_config 8) closed_server (On 0 (Beat true) ∷ [])
    ≡ Faults AlreadyClosed ∷ []
closed_says_of_heartbeat = refl

failed_says : verdicts Server (server_config 8) (running 8) (On 0 MalformedMethod ∷ On 0 (Beat true) ∷ [])
    ≡ closed_with SyntaxError ∷ Faults AlreadyFailed ∷ []
failed_says = refl

-- What was agreed stays: a tune-ok that comes once the server has put its close is dropped.
abbrev pub leaving_server : End
leaving_server =
    end_after Server (server_config 8) 0 (PutHere (Calls (close_as kinds.ConnectionClose 200 (codes "bye")))
    (some_frame 0)) (running 8)

abbrev late_tune_ok : List Came
late_tune_ok = calls 0 kinds.ConnectionTuneOk (short 1 ∷ long 4096 ∷ short 0 ∷ []) ∷ []

tune_ok_dropped : verdicts Server (server_config 8) leaving_server late_tune_ok
    ≡ Proceeds (Some (Discarded 0)) [] ∷ []
tune_ok_dropped = refl

agreed_stays : (after_all Server (server_config 8) leaving_server late_tune_ok).agreed ≡ Some default_limits
agreed_stays = refl

agreed_at_first : (running 8).agreed ≡ Some default_limits
agreed_at_first = refl
